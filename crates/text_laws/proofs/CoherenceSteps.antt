-- Every walk over every forest is coherent: one lemma for each of the three steps that touch owning and holding.
use Rattle.std.proofs.Common.{◌≡◌, ℕ, zero, suc, ◌+◌, ◌<◌, ◌≤◌, Bool, true, false, nat_eq, List, [], ◌∷◌, ◌++◌, length, refl, ap, sym, subst, ◌∙◌, arith, length-append, append-nil}
use Rattle.std.specs.Prelude.{slice_get, Some, None}
use Rattle.std.specs.List.{flat_map}
use Rattle.std.proofs.lemmas.Grind.{flat_map-append}
use Rattle.std.proofs.lemmas.Bool.{eq-eqb, ne_eqb}
use Rattle.element_store.specs.declared.outcome.Role.{Role}
use Rattle.element_store.specs.declared.outcome.Role.TheVariants as role
use Rattle.element_store.specs.declared.lists.Item.{Item}
use Rattle.element_store.specs.declared.lists.Item.TheVariants as item
use Rattle.element_store.specs.Numbers.{numbers_from}
use Rattle.element_store.specs.NameTables.{if_noted}
use Rattle.element_store.proofs.NameLaws.{numbers_more}
use Rattle.element_store.specs.Model.{members_in, imports_in, member_number, import_number}
use Rattle.text_model.specs.declared.draft.DraftTarget.TheVariants.{Owned, Alias}
use Rattle.text_model.specs.declared.draft.DraftMember.{DraftMember}
use Rattle.text_model.specs.declared.draft.DraftImport.{DraftImport}
use Rattle.text_model.specs.Drafts.{adjusted}
use Rattle.text_laws.specs.Coherent.{Stock, held_target, held_member, held_import, held, held_from, IsWithin, AreWithin, Holds, MembersBelow, ImportsBelow, owner_by, owners_by, owners_from, AreCoherent}
use Rattle.text_laws.proofs.ListLemmas.{length-adjusted, each_adjusted, each_push, get_front, get_last}

-- Numbers of one more.

no_more : {A : Type 0} (test : A → Bool) (xs : List A) (x : A) → test x ≡ false → numbers_from 0 test (xs ++ x ∷ []) ≡ numbers_from 0 test xs
no_more test xs x not = numbers_more 0 test xs x ∙ (ap (λ b. numbers_from 0 test xs ++ if_noted b (0 + length xs)) not ∙ append-nil (numbers_from 0 test xs))

one_more : {A : Type 0} (test : A → Bool) (xs : List A) (x : A) → test x ≡ true → numbers_from 0 test (xs ++ x ∷ []) ≡ numbers_from 0 test xs ++ length xs ∷ []
one_more test xs x is = numbers_more 0 test xs x ∙ (ap (λ b. numbers_from 0 test xs ++ if_noted b (0 + length xs)) is
    ∙ ap (λ n. numbers_from 0 test xs ++ n ∷ []) (omega arith))

none_owned : (n e k : ℕ) (ms : List DraftMember) → MembersBelow n ms → n ≤ e → numbers_from k (λ m. nat_eq m.owner e) ms ≡ []
none_owned n e k [] below at = refl
none_owned n e k (m ∷ ms) below at =
    let not : nat_eq m.owner e ≡ false = ne_eqb m.owner e (λ is. omega (arith, below.0, at, is)) in
    rw not (none_owned n e (suc k) ms below.1 at)

none_imported : (n e k : ℕ) (is : List DraftImport) → ImportsBelow n is → n ≤ e → numbers_from k (λ i. nat_eq i.owner e) is ≡ []
none_imported n e k [] below at = refl
none_imported n e k (i ∷ is) below at =
    let not : nat_eq i.owner e ≡ false = ne_eqb i.owner e (λ is. omega (arith, below.0, at, is)) in
    rw not (none_imported n e (suc k) is below.1 at)

members_wider : (n k : ℕ) (ms : List DraftMember) → n ≤ k → MembersBelow n ms → MembersBelow k ms
members_wider n k [] wide below = tt
members_wider n k (m ∷ ms) wide below = (omega (arith, wide, below.0), members_wider n k ms wide below.1)

members_push : (n : ℕ) (ms : List DraftMember) (m : DraftMember) → MembersBelow n ms → m.owner < n → MembersBelow n (ms ++ m ∷ [])
members_push n [] m below one = (one, tt)
members_push n (x ∷ ms) m below one = (below.0, members_push n ms m below.1 one)

imports_wider : (n k : ℕ) (is : List DraftImport) → n ≤ k → ImportsBelow n is → ImportsBelow k is
imports_wider n k [] wide below = tt
imports_wider n k (i ∷ is) wide below = (omega (arith, wide, below.0), imports_wider n k is wide below.1)

imports_push : (n : ℕ) (is : List DraftImport) (i : DraftImport) → ImportsBelow n is → i.owner < n → ImportsBelow n (is ++ i ∷ [])
imports_push n [] i below one = (one, tt)
imports_push n (x ∷ is) i below one = (below.0, imports_push n is i below.1 one)

-- What items hold stays, however many members and imports come.

within_more : (a b c d : ℕ) (items : List Item) → a ≤ c → b ≤ d → AreWithin a b items → AreWithin c d items
within_more a b c d [] ac bd within = tt
within_more a b c d (item.Member m ∷ items) ac bd within = (omega (arith, ac, within.0), within_more a b c d items ac bd within.1)
within_more a b c d (item.Import i ∷ items) ac bd within = (omega (arith, bd, within.0), within_more a b c d items ac bd within.1)

within_push : (a b : ℕ) (items : List Item) (i : Item) → AreWithin a b items → IsWithin a b i → AreWithin a b (items ++ i ∷ [])
within_push a b [] i within one = (one, tt)
within_push a b (x ∷ items) i within one = (within.0, within_push a b items i within.1 one)

held_more : (ms ms' : List DraftMember) (is is' : List DraftImport) (items : List Item) → AreWithin (length ms) (length is) items
    → flat_map (held (ms ++ ms') (is ++ is')) items ≡ flat_map (held ms is) items
held_more ms ms' is is' [] within = refl
held_more ms ms' is is' (item.Member m ∷ items) within =
    ap (λ o. held_member o ++ flat_map (held (ms ++ ms') (is ++ is')) items) (get_front ms ms' m within.0)
    ∙ ap (λ hs. held_member (slice_get ms m) ++ hs) (held_more ms ms' is is' items within.1)
held_more ms ms' is is' (item.Import i ∷ items) within =
    ap (λ o. held_import o ++ flat_map (held (ms ++ ms') (is ++ is')) items) (get_front is is' i within.0)
    ∙ ap (λ hs. held_import (slice_get is i) ++ hs) (held_more ms ms' is is' items within.1)

held_push : (e n : ℕ) (rs : List Role) (r : Role) → held_from e n (rs ++ r ∷ []) ≡ held_from e n rs
    ++ record { owner = e; place = n + length rs; role = r } ∷ []
held_push e n [] r = ap (λ k. record { owner = e; place = k; role = r } ∷ []) (omega arith)
held_push e n (x ∷ rs) r = ap (λ hs. record { owner = e; place = n; role = x } ∷ hs)
    (held_push e (suc n) rs r ∙ ap (λ k. held_from e (suc n) rs ++ record { owner = e; place = k; role = r } ∷ []) (omega arith))

-- Another element's items hold what they held.

keeps_other : (ms : List DraftMember) (is : List DraftImport) (m : DraftMember) (e : ℕ) (s : Stock) → (e ≡ m.owner → ⊥) → Holds ms is e s
    → Holds (ms ++ m ∷ []) is e s
keeps_other ms is m e s other h = record {
  members = h.members ∙ sym (no_more (λ (x : DraftMember). nat_eq x.owner e) ms m (ne_eqb m.owner e (λ same. other (sym same))));
  imports = h.imports;
  within = within_more (length ms) (length is) (length (ms ++ m ∷ [])) (length is) s.items (omega (arith, length-append ms (m ∷ []))) (omega arith) h.within;
  inner = subst (λ js. flat_map (held (ms ++ m ∷ []) js) s.items ≡ held_from e 0 s.inner) (append-nil is)
      (held_more ms (m ∷ []) is [] s.items h.within ∙ h.inner);
}

keeps_other_import : (ms : List DraftMember) (is : List DraftImport) (i : DraftImport) (e : ℕ) (s : Stock) → (e ≡ i.owner → ⊥) → Holds ms is e s
    → Holds ms (is ++ i ∷ []) e s
keeps_other_import ms is i e s other h = record {
  members = h.members;
  imports = h.imports ∙ sym (no_more (λ (x : DraftImport). nat_eq x.owner e) is i (ne_eqb i.owner e (λ same. other (sym same))));
  within = within_more (length ms) (length is) (length ms) (length (is ++ i ∷ [])) s.items (omega arith) (omega (arith, length-append is (i ∷ []))) h.within;
  inner = subst (λ js. flat_map (held js (is ++ i ∷ [])) s.items ≡ held_from e 0 s.inner) (append-nil ms)
      (held_more ms [] is (i ∷ []) s.items h.within ∙ h.inner);
}

-- An element that owns one more.
abbrev pub with_owned : ℕ → Stock → Stock
with_owned n s = record s { items = s.items ++ item.Member n ∷ [] }

takes_owned : (ms : List DraftMember) (is : List DraftImport) (m : DraftMember) (x : ℕ) (s : Stock) → m.target ≡ Owned x → Holds ms is m.owner s
    → Holds (ms ++ m ∷ []) is m.owner (with_owned (length ms) s)
takes_owned ms is m x s owned h = record {
  members = flat_map-append member_number s.items (item.Member (length ms) ∷ []) ∙ (ap (λ ns. ns ++ length ms ∷ []) h.members
      ∙ sym (one_more (λ (y : DraftMember). nat_eq y.owner m.owner) ms m (eq-eqb m.owner m.owner refl)));
  imports = flat_map-append import_number s.items (item.Member (length ms) ∷ []) ∙ (append-nil (imports_in s.items) ∙ h.imports);
  within = within_push (length (ms ++ m ∷ [])) (length is) s.items (item.Member (length ms))
      (within_more (length ms) (length is) (length (ms ++ m ∷ [])) (length is) s.items (omega (arith, length-append ms (m ∷ []))) (omega arith) h.within)
      (omega (arith, length-append ms (m ∷ [])));
  inner = flat_map-append (held (ms ++ m ∷ []) is) s.items (item.Member (length ms) ∷ [])
      ∙ (ap (λ hs. flat_map (held (ms ++ m ∷ []) is) s.items ++ hs)
      (ap (λ o. held_member o ++ []) (get_last ms m) ∙ ap (λ o. held_target m.owner o ++ []) owned)
      ∙ (append-nil (flat_map (held (ms ++ m ∷ []) is) s.items)
      ∙ subst (λ js. flat_map (held (ms ++ m ∷ []) js) s.items ≡ held_from m.owner 0 s.inner) (append-nil is)
      (held_more ms (m ∷ []) is [] s.items h.within ∙ h.inner)));
}

-- An element whose body has one more alias or import.
abbrev pub with_held : Item → Role → Stock → Stock
with_held i r s = record s { items = s.items ++ i ∷ []; inner = s.inner ++ r ∷ [] }

takes_alias : (ms : List DraftMember) (is : List DraftImport) (m : DraftMember) (s : Stock) → m.target ≡ Alias (length s.inner) → Holds ms is m.owner s
    → Holds (ms ++ m ∷ []) is m.owner (with_held (item.Member (length ms)) role.Alias s)
takes_alias ms is m s alias h = record {
  members = flat_map-append member_number s.items (item.Member (length ms) ∷ []) ∙ (ap (λ ns. ns ++ length ms ∷ []) h.members
      ∙ sym (one_more (λ (y : DraftMember). nat_eq y.owner m.owner) ms m (eq-eqb m.owner m.owner refl)));
  imports = flat_map-append import_number s.items (item.Member (length ms) ∷ []) ∙ (append-nil (imports_in s.items) ∙ h.imports);
  within = within_push (length (ms ++ m ∷ [])) (length is) s.items (item.Member (length ms))
      (within_more (length ms) (length is) (length (ms ++ m ∷ [])) (length is) s.items (omega (arith, length-append ms (m ∷ []))) (omega arith) h.within)
      (omega (arith, length-append ms (m ∷ [])));
  inner = flat_map-append (held (ms ++ m ∷ []) is) s.items (item.Member (length ms) ∷ [])
      ∙ (ap (λ hs. flat_map (held (ms ++ m ∷ []) is) s.items ++ hs)
      (ap (λ o. held_member o ++ []) (get_last ms m) ∙ ap (λ o. held_target m.owner o ++ []) alias)
      ∙ (ap (λ hs. hs ++ record { owner = m.owner; place = length s.inner; role = role.Alias } ∷ [])
      (subst (λ js. flat_map (held (ms ++ m ∷ []) js) s.items ≡ held_from m.owner 0 s.inner) (append-nil is)
      (held_more ms (m ∷ []) is [] s.items h.within ∙ h.inner))
      ∙ sym (held_push m.owner 0 s.inner role.Alias ∙ ap (λ k. held_from m.owner 0 s.inner ++ record { owner = m.owner; place = k; role = role.Alias } ∷ [])
      (omega arith))));
}

takes_import : (ms : List DraftMember) (is : List DraftImport) (i : DraftImport) (s : Stock) → i.at ≡ length s.inner → Holds ms is i.owner s
    → Holds ms (is ++ i ∷ []) i.owner (with_held (item.Import (length is)) role.Import s)
takes_import ms is i s at h = record {
  members = flat_map-append member_number s.items (item.Import (length is) ∷ []) ∙ (append-nil (members_in s.items) ∙ h.members);
  imports = flat_map-append import_number s.items (item.Import (length is) ∷ []) ∙ (ap (λ ns. ns ++ length is ∷ []) h.imports
      ∙ sym (one_more (λ (y : DraftImport). nat_eq y.owner i.owner) is i (eq-eqb i.owner i.owner refl)));
  within = within_push (length ms) (length (is ++ i ∷ [])) s.items (item.Import (length is))
      (within_more (length ms) (length is) (length ms) (length (is ++ i ∷ [])) s.items (omega arith) (omega (arith, length-append is (i ∷ []))) h.within)
      (omega (arith, length-append is (i ∷ [])));
  inner = flat_map-append (held ms (is ++ i ∷ [])) s.items (item.Import (length is) ∷ [])
      ∙ (ap (λ hs. flat_map (held ms (is ++ i ∷ [])) s.items ++ hs)
      (ap (λ o. held_import o ++ []) (get_last is i) ∙ ap (λ k. record { owner = i.owner; place = k; role = role.Import } ∷ []) at)
      ∙ (ap (λ hs. hs ++ record { owner = i.owner; place = length s.inner; role = role.Import } ∷ [])
      (subst (λ js. flat_map (held js (is ++ i ∷ [])) s.items ≡ held_from i.owner 0 s.inner) (append-nil ms)
      (held_more ms [] is (i ∷ []) s.items h.within ∙ h.inner))
      ∙ sym (held_push i.owner 0 s.inner role.Import ∙ ap (λ k. held_from i.owner 0 s.inner ++ record { owner = i.owner; place = k; role = role.Import } ∷ [])
      (omega arith))));
}

-- Owners.

owners-kept : (n c : ℕ) (f : Stock → Stock) (ss : List Stock) → ((s : Stock) → (f s).owner ≡ s.owner) → owners_from n (adjusted c f ss) ≡ owners_from n ss
owners-kept n c f [] same = refl
owners-kept n zero f (s ∷ ss) same = ap (λ o. record { element = n; owner = o } ∷ owners_from (suc n) ss) (same s)
owners-kept n (suc c) f (s ∷ ss) same = ap (λ os. record { element = n; owner = s.owner } ∷ os) (owners-kept (suc n) c f ss same)

owners-push : (n : ℕ) (ss : List Stock) (s : Stock) → owners_from n (ss ++ s ∷ []) ≡ owners_from n ss
    ++ record { element = n + length ss; owner = s.owner } ∷ []
owners-push n [] s = ap (λ k. record { element = k; owner = s.owner } ∷ []) (omega arith)
owners-push n (x ∷ ss) s =
    ap (λ os. record { element = n; owner = x.owner } ∷ os)
    (owners-push (suc n) ss s ∙ ap (λ k. owners_from (suc n) ss ++ record { element = k; owner = s.owner } ∷ []) (omega arith))

-- The three steps.

-- the stock of an element with nothing in it
abbrev pub bare : ℕ → Stock
bare owner = record { owner = Some owner; items = []; inner = [] }

-- one more element with its owned member
pub element_step : (ss : List Stock) (ms : List DraftMember) (is : List DraftImport) (m : DraftMember) → m.target ≡ Owned (length ss)
    → AreCoherent ss ms is m.owner
    → AreCoherent (adjusted m.owner (with_owned (length ms)) ss ++ bare m.owner ∷ []) (ms ++ m ∷ []) is (length ss)
element_step ss ms is m owned h =
    let len : length (adjusted m.owner (with_owned (length ms)) ss) ≡ length ss = length-adjusted m.owner (with_owned (length ms)) ss in
    let long : length (adjusted m.owner (with_owned (length ms)) ss ++ bare m.owner ∷ []) ≡ length ss + 1 =
    length-append (adjusted m.owner (with_owned (length ms)) ss) (bare m.owner ∷ []) ∙ omega (arith, len) in
    let below : MembersBelow (length ss) (ms ++ m ∷ []) = members_push (length ss) ms m h.members h.current in
    record {
      current = omega (arith, long);
      owners = ap (λ os. record { element = 0; owner = None } ∷ os) (flat_map-append (λ (x : DraftMember). owner_by x.target x.owner) ms (m ∷ [])
          ∙ ap (λ t. owners_by ms ++ (owner_by t m.owner ++ [])) owned)
          ∙ (ap (λ os. os ++ record { element = length ss; owner = Some m.owner } ∷ [])
          (h.owners ∙ sym (owners-kept 0 m.owner (with_owned (length ms)) ss (λ s. refl)))
          ∙ sym (owners-push 0 (adjusted m.owner (with_owned (length ms)) ss) (bare m.owner)
          ∙ ap (λ k. owners_from 0 (adjusted m.owner (with_owned (length ms)) ss) ++ record { element = k; owner = Some m.owner } ∷ []) (omega (arith, len))));
      each = each_push (Holds (ms ++ m ∷ []) is) (length ss) 0 (adjusted m.owner (with_owned (length ms)) ss) (bare m.owner) (omega (arith, len))
          (each_adjusted (Holds ms is) (Holds (ms ++ m ∷ []) is) (with_owned (length ms)) m.owner 0 m.owner ss (omega arith)
          (λ e s other held. keeps_other ms is m e s other held) (λ s at held. takes_owned ms is m (length ss) s owned held) h.each)
          (record {
            members = sym (none_owned (length ss) (length ss) 0 (ms ++ m ∷ []) below (omega arith));
            imports = sym (none_imported (length ss) (length ss) 0 is h.imports (omega arith));
            within = tt;
            inner = refl;
          });
      members = members_wider (length ss) (length (adjusted m.owner (with_owned (length ms)) ss ++ bare m.owner ∷ [])) (ms ++ m ∷ [])
          (omega (arith, long)) below;
      imports = imports_wider (length ss) (length (adjusted m.owner (with_owned (length ms)) ss ++ bare m.owner ∷ [])) is (omega (arith, long)) h.imports;
    }

-- one more alias of the open element
pub alias_step : (ss : List Stock) (ms : List DraftMember) (is : List DraftImport) (m : DraftMember)
    → ((s : Stock) → slice_get ss m.owner ≡ Some s → m.target ≡ Alias (length s.inner))
    → AreCoherent ss ms is m.owner → AreCoherent (adjusted m.owner (with_held (item.Member (length ms)) role.Alias) ss) (ms ++ m ∷ []) is m.owner
alias_step ss ms is m alias h =
    let f : Stock → Stock = with_held (item.Member (length ms)) role.Alias in
    let len : length (adjusted m.owner f ss) ≡ length ss = length-adjusted m.owner f ss in
    let target : (k : ℕ) × (m.target ≡ Alias k) = target_at ss m.owner h.current alias in
    record {
      current = omega (arith, len, h.current);
      owners = ap (λ os. record { element = 0; owner = None } ∷ os) (flat_map-append (λ (x : DraftMember). owner_by x.target x.owner) ms (m ∷ [])
          ∙ (ap (λ t. owners_by ms ++ (owner_by t m.owner ++ [])) target.1 ∙ append-nil (owners_by ms)))
          ∙ (h.owners ∙ sym (owners-kept 0 m.owner f ss (λ s. refl)));
      each = each_adjusted (Holds ms is) (Holds (ms ++ m ∷ []) is) f m.owner 0 m.owner ss (omega arith)
          (λ e s other held. keeps_other ms is m e s other held) (λ s at held. takes_alias ms is m s (alias s at) held) h.each;
      members = members_wider (length ss) (length (adjusted m.owner f ss)) (ms ++ m ∷ []) (omega (arith, len))
          (members_push (length ss) ms m h.members h.current);
      imports = imports_wider (length ss) (length (adjusted m.owner f ss)) is (omega (arith, len)) h.imports;
    } where
      target_at : (ss : List Stock) (c : ℕ) → c < length ss → ((s : Stock) → slice_get ss c ≡ Some s → m.target ≡ Alias (length s.inner)) → (k : ℕ)
          × (m.target ≡ Alias k)
      target_at [] c below alias = absurd (omega (arith, below))
      target_at (s ∷ ss) zero below alias = (length s.inner, alias s refl)
      target_at (s ∷ ss) (suc c) below alias = target_at ss c (omega (arith, below)) alias

-- one more import of the open element
pub import_step : (ss : List Stock) (ms : List DraftMember) (is : List DraftImport) (i : DraftImport)
    → ((s : Stock) → slice_get ss i.owner ≡ Some s → i.at ≡ length s.inner)
    → AreCoherent ss ms is i.owner → AreCoherent (adjusted i.owner (with_held (item.Import (length is)) role.Import) ss) ms (is ++ i ∷ []) i.owner
import_step ss ms is i at h =
    let f : Stock → Stock = with_held (item.Import (length is)) role.Import in
    let len : length (adjusted i.owner f ss) ≡ length ss = length-adjusted i.owner f ss in
    record {
      current = omega (arith, len, h.current);
      owners = h.owners ∙ sym (owners-kept 0 i.owner f ss (λ s. refl));
      each = each_adjusted (Holds ms is) (Holds ms (is ++ i ∷ [])) f i.owner 0 i.owner ss (omega arith)
          (λ e s other held. keeps_other_import ms is i e s other held) (λ s here held. takes_import ms is i s (at s here) held) h.each;
      members = members_wider (length ss) (length (adjusted i.owner f ss)) ms (omega (arith, len)) h.members;
      imports = imports_wider (length ss) (length (adjusted i.owner f ss)) (is ++ i ∷ []) (omega (arith, len))
          (imports_push (length ss) is i h.imports h.current);
    }
