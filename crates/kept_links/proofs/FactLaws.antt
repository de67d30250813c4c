-- A name that isn't among the facts of a file is borne by no public member of its root.
use Rattle.std.proofs.Common.{◌≡◌, ℕ, Bool, true, false, cond, List, [], ◌∷◌, ◌++◌, refl, sym, ◌∙◌, ap, subst, inl, inr}
use Rattle.std.proofs.lemmas.Bool.Decides.{nat_tests}
use Rattle.std.specs.Prelude.{suc, nat_eq, ◌&&◌, ◌||◌, ◌⊎◌, map, Option, None, Some}
use Rattle.std.specs.List.{flat_map}
use Rattle.std.specs.Option.{option_map_or}
use Rattle.std.specs.Cmp.Lexicographic.{pointwise}
use Rattle.linker_base.specs.Members.{IsMember}
use Rattle.linker_base.proofs.Cases.{bool_cases}
use Rattle.linker_base.proofs.MemberLaws.{member_left, member_right}
use Rattle.demand_core.specs.declared.looks.Fact.{Fact}
use Rattle.demand_core.specs.declared.looks.Fact.TheVariants.{Outer}
use Rattle.element_store.specs.declared.numbers.FileNo.{FileNo}
use Rattle.element_store.specs.declared.models.StoredFile.{StoredFile}
use Rattle.element_store.specs.declared.records.Member.{Member}
use Rattle.element_store.specs.Model.{bears, is_name}
use Rattle.element_store.specs.Numbers.{chosen, numbers_from}
use Rattle.link_model.specs.declared.keys.LinkKey.{LinkKey}
use Rattle.link_model.specs.declared.keys.LinkFact.{LinkFact}
use Rattle.link_model.specs.declared.keys.LinkFact.TheVariants.{RootName}
use Rattle.link_model.specs.Keys.{name_exact}
use Rattle.link_model.specs.Outside.{is_public, model_in, root_members}
use Rattle.kept_links.specs.Facts.{name_facts, member_facts, facts_of}

-- the roots under a name
abbrev pub root : List ℕ → Fact LinkKey LinkFact
root x = Outer (RootName x)

-- the public member of a root bears the name
abbrev shows : List ℕ → Member → Bool
shows x m = nat_eq m.owner 0 && is_public m.visibility && bears x m

name_among : (x : List ℕ) (o : Option (List ℕ)) → is_name x o ≡ true → IsMember (name_facts o) (root x)
name_among x None e = cc
name_among x (Some y) e = let same = name_exact x y e in inl (ap root (sym same))

or_cases : (a b : Bool) → (a || b) ≡ true → (a ≡ true) ⊎ (b ≡ true)
or_cases true b e = inl refl
or_cases false b e = inr e

bears_among : (x : List ℕ) (m : Member) → bears x m ≡ true → IsMember (name_facts m.short ++ name_facts m.name) (root x)
bears_among x m e = elim (or_cases (is_name x m.short) (is_name x m.name) e) [
  | inl a ↦ member_left (name_facts m.short) (name_facts m.name) (root x) (name_among x m.short a)
  | inr b ↦ member_right (name_facts m.short) (name_facts m.name) (root x) (name_among x m.name b)
]

no_name : (x : List ℕ) (o : Option (List ℕ)) → (IsMember (name_facts o) (root x) → ⊥) → is_name x o ≡ false
no_name x o out = elim (bool_cases (is_name x o)) [ inl a ↦ absurd (out (name_among x o a)) | inr b ↦ b ]

unseen_by : (a b c : Bool) (xs : List (Fact LinkKey LinkFact)) (f : Fact LinkKey LinkFact) → (c ≡ true → IsMember xs f)
    → (IsMember (cond (a && b) xs []) f → ⊥) → (a && b && c) ≡ false
unseen_by true true true xs f h out = absurd (out (h refl))
unseen_by true true false xs f h out = refl
unseen_by true false c xs f h out = refl
unseen_by false b c xs f h out = refl

-- a member that shows the name is told of
not_shown : (x : List ℕ) (m : Member) → (IsMember (member_facts m) (root x) → ⊥) → shows x m ≡ false
not_shown x m out =
    unseen_by (nat_eq m.owner 0) (is_public m.visibility) (bears x m) (name_facts m.short ++ name_facts m.name) (root x) (bears_among x m) out

none_numbered : (x : List ℕ) (n : ℕ) (ms : List Member) → (IsMember (flat_map member_facts ms) (root x) → ⊥)
    → numbers_from n (shows x) ms ≡ []
none_numbered x n [] out = refl
none_numbered x n (m ∷ ms) out =
    (λ i. chosen (not_shown x m (λ here. out (member_left (member_facts m) (flat_map member_facts ms) (root x) here)) i) n
    (numbers_from (suc n) (shows x) ms))
    ∙ none_numbered x (suc n) ms (λ later. out (member_right (member_facts m) (flat_map member_facts ms) (root x) later))

pub no_root : (f : FileNo) (s : StoredFile) (x : List ℕ) → (IsMember (facts_of f (Some s)) (root x) → ⊥)
    → root_members x (record { number = f; file = s }) ≡ []
no_root f s x out =
    ap (map (λ k. record { file = f; index = k })) (none_numbered x 0 (model_in (Some s)).members (λ m. out (inr m)))
