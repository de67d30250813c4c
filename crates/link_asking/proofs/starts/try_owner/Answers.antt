use Rattle.std.proofs.Common.{[], ◌∷◌, true, sym, subst}
use Rattle.link_model.specs.Inheritance.{inherited, inherited_tier}
use Rattle.link_model.specs.Lexical.{imports_of_all}
use Rattle.link_model.specs.Names.{declared}
use Rattle.link_walk.specs.Calls.{files_of, read_by}
use Rattle.link_tiers.specs.Tiers.{Tried}
use Rattle.link_tiers.proofs.TierLaws.{tried_on, tried_end}
use Rattle.link_asking.specs.Hiding.{library_in}
use Rattle.link_asking.specs.Starts.{owner_tiers}
use Rattle.link_asking.proofs.starts.try_owner.Goals as goal

pub returns-then-is_type-clause-tried : goal.returns-then-is_type-clause-tried
returns-then-is_type-clause-tried g c =
    let w = read_by c.args.view.now in
    let lib = library_in c.args.view.now in
    subst (λ b. Tried w (owner_tiers lib b c.args.name.now c.args.at) c.in_ok-only.only c.args.gains.now c.try_tier.new.gains) (sym c.if-is_type.true)
    (c.in_ok-only.ensures.tried w (inherited lib true c.args.name.now c.args.at) c.in_ok-raw.ensures.asked)

pub returns-then-is_type-clause-found : goal.returns-then-is_type-clause-found
returns-then-is_type-clause-found g c = c.in_ok-only.ensures.found (files_of c.args.view.now) c.in_ok-raw.ensures.found

pub returns-then-first-clause-tried : goal.returns-then-first-clause-tried
returns-then-first-clause-tried g c =
    let w = read_by c.args.view.now in
    let lib = library_in c.args.view.now in
    let x = c.args.name.now in
    let n = c.args.at in
    let own = c.args.gains.now in
    subst (λ b. Tried w (owner_tiers lib b x n) true own c.try_tier-2.new.gains) (sym c.if-is_type.false)
    (tried_end w (declared x n ∷ []) (inherited_tier lib x n ∷ imports_of_all lib x n ∷ []) own c.try_tier-2.new.gains
    (subst (λ b. Tried w (declared x n ∷ []) b own c.try_tier-2.new.gains) c.if-first.true
    (c.in_ok-first.ensures.tried w (declared x n) c.in_ok-declared.ensures.asked)))

pub returns-then-first-clause-found : goal.returns-then-first-clause-found
returns-then-first-clause-found g c = c.in_ok-first.ensures.found (files_of c.args.view.now) c.in_ok-declared.ensures.found

pub returns-then-second-clause-tried : goal.returns-then-second-clause-tried
returns-then-second-clause-tried g c =
    let w = read_by c.args.view.now in
    let lib = library_in c.args.view.now in
    let x = c.args.name.now in
    let n = c.args.at in
    let own = c.args.gains.now in
    let mid = c.try_tier-2.new.gains in
    let end = c.try_tier-3.new.gains in
    subst (λ b. Tried w (owner_tiers lib b x n) true own end) (sym c.if-is_type.false)
    (tried_on w (declared x n ∷ []) (inherited_tier lib x n ∷ imports_of_all lib x n ∷ []) true own mid end
    (subst (λ b. Tried w (declared x n ∷ []) b own mid) c.if-first.false (c.in_ok-first.ensures.tried w (declared x n) c.in_ok-declared.ensures.asked))
    (tried_end w (inherited_tier lib x n ∷ []) (imports_of_all lib x n ∷ []) mid end
    (subst (λ b. Tried w (inherited_tier lib x n ∷ []) b mid end) c.if-second.true
    (c.in_ok-second.ensures.tried w (inherited_tier lib x n) c.in_ok-inherited.ensures.asked))))

pub returns-then-second-clause-found : goal.returns-then-second-clause-found
returns-then-second-clause-found g c = c.in_ok-second.ensures.found (files_of c.args.view.now) c.in_ok-inherited.ensures.found

pub returns-clause-tried : goal.returns-clause-tried
returns-clause-tried g c =
    let w = read_by c.args.view.now in
    let lib = library_in c.args.view.now in
    let x = c.args.name.now in
    let n = c.args.at in
    let own = c.args.gains.now in
    let mid = c.try_tier-2.new.gains in
    let late = c.try_tier-3.new.gains in
    let end = c.try_tier-4.new.gains in
    subst (λ b. Tried w (owner_tiers lib b x n) c.in_ok-third.third own end) (sym c.if-is_type.false)
    (tried_on w (declared x n ∷ []) (inherited_tier lib x n ∷ imports_of_all lib x n ∷ []) c.in_ok-third.third own mid end
    (subst (λ b. Tried w (declared x n ∷ []) b own mid) c.if-first.false (c.in_ok-first.ensures.tried w (declared x n) c.in_ok-declared.ensures.asked))
    (tried_on w (inherited_tier lib x n ∷ []) (imports_of_all lib x n ∷ []) c.in_ok-third.third mid late end
    (subst (λ b. Tried w (inherited_tier lib x n ∷ []) b mid late) c.if-second.false
    (c.in_ok-second.ensures.tried w (inherited_tier lib x n) c.in_ok-inherited.ensures.asked))
    (c.in_ok-third.ensures.tried w (imports_of_all lib x n) c.in_ok-imported.ensures.asked)))

pub returns-clause-found : goal.returns-clause-found
returns-clause-found g c = c.in_ok-third.ensures.found (files_of c.args.view.now) c.in_ok-imported.ensures.found
