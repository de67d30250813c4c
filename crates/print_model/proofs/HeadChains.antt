-- The lines of a model as they are printed: each token is apart from the one before it.
use Rattle.std.proofs.Common.{◌≡◌, ℕ, Bool, true, false, List, [], ◌∷◌, ◌++◌, refl, sym, subst, inl, inr, ◌⊎◌}
use Rattle.std.specs.Prelude.{Option, Some, None, cond, is_some, map, codes}
use Rattle.std.specs.List.{list_all}
use Rattle.std.specs.Fmt.{signed_decimal}
use Rattle.std.proofs.lemmas.Str.{IsUtf8-append}
use Rattle.linker_base.proofs.Cases.{both_true}
use Rattle.element_store.specs.Numbers.{those_where, chosen}
use Rattle.element_store.specs.declared.outcome.Language.{Language}
use Rattle.element_store.specs.declared.outcome.Language.TheVariants.{Kerml, Sysml}
use Rattle.element_store.specs.declared.outcome.Role.{Role}
use Rattle.element_store.specs.declared.outcome.Role.TheVariants as role
use Rattle.element_store.specs.declared.kind.Kind.{Kind}
use Rattle.element_store.specs.declared.kind.Kind.TheVariants as kind
use Rattle.element_store.specs.declared.kind.Marks.{Marks}
use Rattle.element_store.specs.declared.kind.Visibility.{Visibility}
use Rattle.element_store.specs.declared.kind.Visibility.TheVariants as visibility
use Rattle.element_store.specs.declared.kind.Direction.{Direction}
use Rattle.element_store.specs.declared.kind.Direction.TheVariants as direction
use Rattle.element_store.specs.declared.kind.PartOf.{PartOf}
use Rattle.element_store.specs.declared.kind.PartOf.TheVariants as part
use Rattle.element_store.specs.declared.records.Element.{Element}
use Rattle.element_store.specs.declared.records.Member.{Member}
use Rattle.element_store.specs.declared.records.Reference.{Reference}
use Rattle.element_store.specs.declared.records.Import.{Import}
use Rattle.element_store.specs.declared.expression.Node.{Node}
use Rattle.element_store.specs.declared.expression.Bounds.{Bounds}
use Rattle.element_store.specs.declared.expression.Limit.{Limit}
use Rattle.element_store.specs.declared.expression.Limit.TheVariants as limit
use Rattle.element_store.specs.Model.{Data}
use Rattle.token_core.specs.Words.{signs, words, parted, place_in}
use Rattle.token_core.specs.Reading.{IsSpellable}
use Rattle.text_laws.specs.Fits.{Every}
use Rattle.print_model.specs.Printed.{Printed, sign, word, name, text, number, note, tightly}
use Rattle.print_model.specs.Trees.{named, printed}
use Rattle.print_model.specs.Heads.{element_at, references_in, path_in, path_at, first_tree, expression, word_if, visibility_word, member_visibility, part_words, direction_words, prefixes, kind_word, kind_words, short_name, declared_name, names, is_specialisation, is_about, role_sign, goes_on, specialisations, listed, abouts, limit_tokens, limits_in, bounds_tokens, value_tokens, ends_of, end_name, end_tokens, end_list, ends_tokens, before_names, head, locale_tokens, body_bytes, note_tokens, alias_tokens, star_tokens, import_tokens}
use Rattle.print_model.specs.Written.{IsWrittenPath, is_word_of, IsSpellableIn, IsWrittenLimit, AreWrittenBounds, AreWrittenNodes, is_kind_of, is_part_of, IsWrittenElement, HasWords, CanBeWritten}
use Rattle.print_model.proofs.Edges.{stops_sign}
use Rattle.print_model.proofs.Following.{low_utf8, Apart}
use Rattle.print_model.proofs.Joints.{Closing, closing_apart, Taking, Ready, ready_apart, inside_opens, sign_fit, sign_taking, sign_closes, Loose, spaced_apart, Passes, passes_none, passes_more, passes_on, passes_from, passes_to}
use Rattle.print_model.proofs.OperandChains.{name_inside, name_fit, name_closes, name_passes, word_passes, number_passes, text_passes, sign_passes, named_passes, printed_passes, opening_passes, closing_passes, from_closing, close_closes}

-- Words and signs, by evaluation.

standard_is : (l : Language) → is_word_of l (codes "standard") ≡ true
unfolding words
standard_is Kerml = refl
standard_is Sysml = refl

library_is : (l : Language) → is_word_of l (codes "library") ≡ true
unfolding words
library_is Kerml = refl
library_is Sysml = refl

ordered_is : (l : Language) → is_word_of l (codes "ordered") ≡ true
unfolding words
ordered_is Kerml = refl
ordered_is Sysml = refl

nonunique_is : (l : Language) → is_word_of l (codes "nonunique") ≡ true
unfolding words
nonunique_is Kerml = refl
nonunique_is Sysml = refl

default_is : (l : Language) → is_word_of l (codes "default") ≡ true
unfolding words
default_is Kerml = refl
default_is Sysml = refl

-- `locale` is a word of both languages
pub locale_is : (l : Language) → is_word_of l (codes "locale") ≡ true
unfolding words
locale_is Kerml = refl
locale_is Sysml = refl

about_is : (l : Language) → is_word_of l (codes "about") ≡ true
unfolding words
about_is Kerml = refl
about_is Sysml = refl

-- `alias` is a word of both languages
pub alias_is : (l : Language) → is_word_of l (codes "alias") ≡ true
unfolding words
alias_is Kerml = refl
alias_is Sysml = refl

-- `for` is a word of both languages
pub for_is : (l : Language) → is_word_of l (codes "for") ≡ true
unfolding words
for_is Kerml = refl
for_is Sysml = refl

-- `import` is a word of both languages
pub import_is : (l : Language) → is_word_of l (codes "import") ≡ true
unfolding words
import_is Kerml = refl
import_is Sysml = refl

-- `all` is a word of both languages
pub all_is : (l : Language) → is_word_of l (codes "all") ≡ true
unfolding words
all_is Kerml = refl
all_is Sysml = refl

public_is : (l : Language) → is_word_of l (codes "public") ≡ true
unfolding words
public_is Kerml = refl
public_is Sysml = refl

protected_is : (l : Language) → is_word_of l (codes "protected") ≡ true
unfolding words
protected_is Kerml = refl
protected_is Sysml = refl

private_is : (l : Language) → is_word_of l (codes "private") ≡ true
unfolding words
private_is Kerml = refl
private_is Sysml = refl

end_is : (l : Language) → is_word_of l (codes "end") ≡ true
unfolding words
end_is Kerml = refl
end_is Sysml = refl

in_is : (l : Language) → is_word_of l (codes "in") ≡ true
unfolding words
in_is Kerml = refl
in_is Sysml = refl

out_is : (l : Language) → is_word_of l (codes "out") ≡ true
unfolding words
out_is Kerml = refl
out_is Sysml = refl

inout_is : (l : Language) → is_word_of l (codes "inout") ≡ true
unfolding words
inout_is Kerml = refl
inout_is Sysml = refl

derived_is : (l : Language) → is_word_of l (codes "derived") ≡ true
unfolding words
derived_is Kerml = refl
derived_is Sysml = refl

abstract_is : (l : Language) → is_word_of l (codes "abstract") ≡ true
unfolding words
abstract_is Kerml = refl
abstract_is Sysml = refl

colon_sign : is_some (place_in signs (codes ":")) ≡ true
unfolding signs
colon_sign = refl

subset_sign : is_some (place_in signs (codes ":>")) ≡ true
unfolding signs
subset_sign = refl

redefine_sign : is_some (place_in signs (codes ":>>")) ≡ true
unfolding signs
redefine_sign = refl

refer_sign : is_some (place_in signs (codes "::>")) ≡ true
unfolding signs
refer_sign = refl

comma_sign : is_some (place_in signs (codes ",")) ≡ true
unfolding signs
comma_sign = refl

equals_sign : is_some (place_in signs (codes "=")) ≡ true
unfolding signs
equals_sign = refl

dots_sign : is_some (place_in signs (codes "..")) ≡ true
unfolding signs
dots_sign = refl

bracket_sign : is_some (place_in signs (codes "[")) ≡ true
unfolding signs
bracket_sign = refl

bracket_end : is_some (place_in signs (codes "]")) ≡ true
unfolding signs
bracket_end = refl

-- `;` is a sign
pub semicolon_sign : is_some (place_in signs (codes ";")) ≡ true
unfolding signs
semicolon_sign = refl

-- `{` is a sign
pub brace_sign : is_some (place_in signs (codes "{")) ≡ true
unfolding signs
brace_sign = refl

-- `}` is a sign
pub brace_end : is_some (place_in signs (codes "}")) ≡ true
unfolding signs
brace_end = refl

-- `*` is a sign
pub star_sign : is_some (place_in signs (codes "*")) ≡ true
unfolding signs
star_sign = refl

-- `**` is a sign
pub stars_sign : is_some (place_in signs (codes "**")) ≡ true
unfolding signs
stars_sign = refl

less_sign : is_some (place_in signs (codes "<")) ≡ true
unfolding signs
less_sign = refl

greater_sign : is_some (place_in signs (codes ">")) ≡ true
unfolding signs
greater_sign = refl

-- `(` is a sign
pub round_sign : is_some (place_in signs (codes "(")) ≡ true
unfolding signs
round_sign = refl

round_end : is_some (place_in signs (codes ")")) ≡ true
unfolding signs
round_end = refl

bracket_closes : Closing (sign (codes "]"))
unfolding signs
bracket_closes = sign_closes (sign (codes "]")) _ refl refl refl refl

star_closes : Closing (sign (codes "*"))
unfolding signs
star_closes = sign_closes (sign (codes "*")) _ refl refl refl refl

stars_closes : Closing (sign (codes "**"))
unfolding signs
stars_closes = sign_closes (sign (codes "**")) _ refl refl refl refl

greater_closes : Closing (sign (codes ">"))
unfolding signs
greater_closes = sign_closes (sign (codes ">")) _ refl refl refl refl

-- `;` ends an operand
pub semicolon_closes : Closing (sign (codes ";"))
unfolding signs
semicolon_closes = sign_closes (sign (codes ";")) _ refl refl refl refl

-- `}` ends an operand
pub brace_closes : Closing (sign (codes "}"))
unfolding signs
brace_closes = sign_closes (sign (codes "}")) _ refl refl refl refl

-- behind an operand's end, and an operand's end again
abbrev pub Goes : Language → List Printed → Type 0
Goes l ps = Passes l Closing ps Closing

-- no token
pub goes_none : (l : Language) → Goes l []
goes_none l = passes_none l Closing

-- one list after another
pub goes_on_with : (l : Language) (xs ys : List Printed) → Goes l xs → Goes l ys → Goes l (xs ++ ys)
goes_on_with l xs ys h k = passes_on l Closing Closing Closing xs ys h k

-- a word
pub word_goes : (l : Language) (bytes : List ℕ) → is_word_of l bytes ≡ true → Goes l (word l bytes ∷ [])
word_goes l bytes e = from_closing l (word l bytes ∷ []) Closing (word_passes l bytes e)

-- a word, where it stands
pub word_if_goes : (l : Language) (b : Bool) (bytes : List ℕ) → is_word_of l bytes ≡ true → Goes l (word_if l b bytes)
word_if_goes l true bytes e = word_goes l bytes e
word_if_goes l false bytes e = goes_none l

words_go : (l : Language) (ws : List (List ℕ)) → list_all (is_word_of l) ws ≡ true → Goes l (map (word l) ws)
words_go l [] e = goes_none l
words_go l (w ∷ ws) e =
    let b = both_true (is_word_of l w) (list_all (is_word_of l) ws) e in
    goes_on_with l (word l w ∷ []) (map (word l) ws) (word_goes l w b.0) (words_go l ws b.1)

-- a sign, and an operand
sign_then : (l : Language) (bytes : List ℕ) (ps : List Printed) → is_some (place_in signs bytes) ≡ true → Passes l Ready ps Closing → Goes l (sign bytes ∷ ps)
sign_then l bytes ps e h = passes_on l Closing Ready Closing (sign bytes ∷ []) ps (sign_passes l bytes e) h

-- the word of a visibility
pub visibility_is : (l : Language) (v : Visibility) → is_word_of l (visibility_word v) ≡ true
visibility_is l visibility.Public = public_is l
visibility_is l visibility.Protected = protected_is l
visibility_is l visibility.Private = private_is l

-- a member's visibility
pub visibility_goes : (l : Language) (v : Visibility) → Goes l (member_visibility l v)
visibility_goes l visibility.Public = goes_none l
visibility_goes l visibility.Protected = word_goes l (codes "protected") (protected_is l)
visibility_goes l visibility.Private = word_goes l (codes "private") (private_is l)

part_goes : (l : Language) (p : PartOf) → is_part_of l p ≡ true → Goes l (part_words l p)
part_goes l part.Return e = word_goes l (codes "return") e
part_goes l part.Assume e = word_goes l (codes "assume") e
part_goes l part.Require e = word_goes l (codes "require") e
part_goes l other e = goes_none l

direction_goes : (l : Language) (d : Direction) → Goes l (direction_words l d)
direction_goes l direction.In = word_goes l (codes "in") (in_is l)
direction_goes l direction.Out = word_goes l (codes "out") (out_is l)
direction_goes l direction.InOut = word_goes l (codes "inout") (inout_is l)
direction_goes l direction.None = goes_none l

constant_is : is_word_of Sysml (codes "constant") ≡ true
unfolding words
constant_is = refl

ref_is : is_word_of Sysml (codes "ref") ≡ true
unfolding words
ref_is = refl

composite_is : is_word_of Kerml (codes "composite") ≡ true
unfolding words
composite_is = refl

const_is : is_word_of Kerml (codes "const") ≡ true
unfolding words
const_is = refl

prefixes_go : (l : Language) (m : Marks) → Goes l (prefixes l m)
prefixes_go Sysml m =
    goes_on_with Sysml (word_if Sysml m.end (codes "end")) _ (word_if_goes Sysml m.end (codes "end") (end_is Sysml))
    (goes_on_with Sysml (direction_words Sysml m.direction) _ (direction_goes Sysml m.direction)
    (goes_on_with Sysml (word_if Sysml m.derived (codes "derived")) _ (word_if_goes Sysml m.derived (codes "derived") (derived_is Sysml))
    (goes_on_with Sysml (word_if Sysml m.is_abstract (codes "abstract")) _ (word_if_goes Sysml m.is_abstract (codes "abstract") (abstract_is Sysml))
    (goes_on_with Sysml (word_if Sysml m.constant (codes "constant")) _ (word_if_goes Sysml m.constant (codes "constant") constant_is)
    (word_if_goes Sysml m.reference (codes "ref") ref_is)))))
prefixes_go Kerml m =
    goes_on_with Kerml (direction_words Kerml m.direction) _ (direction_goes Kerml m.direction)
    (goes_on_with Kerml (word_if Kerml m.derived (codes "derived")) _ (word_if_goes Kerml m.derived (codes "derived") (derived_is Kerml))
    (goes_on_with Kerml (word_if Kerml m.is_abstract (codes "abstract")) _ (word_if_goes Kerml m.is_abstract (codes "abstract") (abstract_is Kerml))
    (goes_on_with Kerml (word_if Kerml m.composite (codes "composite")) _ (word_if_goes Kerml m.composite (codes "composite") composite_is)
    (goes_on_with Kerml (word_if Kerml m.constant (codes "const")) _ (word_if_goes Kerml m.constant (codes "const") const_is)
    (word_if_goes Kerml m.end (codes "end") (end_is Kerml))))))

-- `<`, a short name and `>`
less_apart : (l : Language) (s : List ℕ) → Apart (tightly (sign (codes "<"))) (tightly (name l s))
less_apart l s = ready_apart (tightly (sign (codes "<"))) (tightly (name l s)) (inr (λ c b. sign_taking (codes "<") less_sign c b))
    (inside_opens (tightly (name l s)).bytes (name_inside l s))

short_goes : (l : Language) (s : Option (List ℕ)) → IsSpellableIn s → Goes l (short_name l s)
short_goes l None h = goes_none l
short_goes l (Some s) h =
    passes_more l Closing (λ p. p ≡ tightly (sign (codes "<"))) Closing (tightly (sign (codes "<"))) (tightly (name l s) ∷ sign (codes ">") ∷ [])
    (sign_fit l (codes "<") less_sign) (λ p c. closing_apart p (tightly (sign (codes "<"))) c) refl
    (passes_more l (λ p. p ≡ tightly (sign (codes "<"))) (λ p. p ≡ tightly (name l s)) Closing (tightly (name l s)) (sign (codes ">") ∷ []) (name_fit l s h)
    (λ p e. subst (λ x. Apart x (tightly (name l s))) (sym e) (less_apart l s)) refl
    (passes_more l (λ p. p ≡ tightly (name l s)) Closing Closing (sign (codes ">")) [] (sign_fit l (codes ">") greater_sign)
    (λ p e. subst (λ x. Apart x (sign (codes ">"))) (sym e) (λ g. refl)) greater_closes (passes_none l Closing)))

name_goes : (l : Language) (s : List ℕ) → IsSpellable s → Goes l (name l s ∷ [])
name_goes l s h = from_closing l (name l s ∷ []) Closing (name_passes l s h)

declared_goes : (l : Language) (s : Option (List ℕ)) → IsSpellableIn s → Goes l (declared_name l s)
declared_goes l None h = goes_none l
declared_goes l (Some s) h = name_goes l s h

-- names
pub names_go : (l : Language) (short long : Option (List ℕ)) → IsSpellableIn short → IsSpellableIn long → Goes l (names l short long)
names_go l short long h k = goes_on_with l (short_name l short) (declared_name l long) (short_goes l short h) (declared_goes l long k)

-- References.

-- the paths of references can be written
abbrev pub AreWritten : List Reference → Type 0
AreWritten rs = Every (λ r. IsWrittenPath (path_in r)) rs

every_where : (P : Reference → Type 0) (test : Reference → Bool) (rs : List Reference) → Every P rs → Every P (those_where test rs)
every_where P test [] h = tt
every_where P test (r ∷ rs) h = choose (test r) (every_where P test rs h.1)
  where
    choose : (b : Bool) → Every P (those_where test rs) → Every P (chosen b r (those_where test rs))
    choose true k = (h.0, k)
    choose false k = k

role_sign_is : (b : Bool) (r : Role) → is_some (place_in signs (cond b (codes ",") (role_sign r))) ≡ true
role_sign_is true r = comma_sign
role_sign_is false role.Typing = colon_sign
role_sign_is false role.Redefinition = redefine_sign
role_sign_is false role.ReferenceSubsetting = refer_sign
role_sign_is false other = subset_sign

specialisations_go : (l : Language) (before : Option Role) (rs : List Reference) → AreWritten rs → Goes l (specialisations l before rs)
specialisations_go l before [] h = goes_none l
specialisations_go l before (r ∷ rs) h =
    passes_on l Closing Ready Closing (sign (cond (goes_on before r.role) (codes ",") (role_sign r.role)) ∷ []) _
    (sign_passes l _ (role_sign_is (goes_on before r.role) r.role))
    (passes_on l Ready Closing Closing (named l (path_in r)) _ (named_passes l (path_in r) h.0) (specialisations_go l (Some r.role) rs h.1))

listed_pass : (l : Language) (r : Reference) (rs : List Reference) → AreWritten (r ∷ rs) → Passes l Ready (listed l (r ∷ rs)) Closing
listed_pass l r [] h = named_passes l (path_in r) h.0
listed_pass l r (s ∷ rs) h =
    passes_on l Ready Closing Closing (named l (path_in r)) _ (named_passes l (path_in r) h.0)
    (sign_then l (codes ",") (listed l (s ∷ rs)) comma_sign (listed_pass l s rs h.1))

-- what a comment is about
pub abouts_go : (l : Language) (rs : List Reference) → AreWritten rs → Goes l (abouts l rs)
abouts_go l [] h = goes_none l
abouts_go l (r ∷ rs) h = goes_on_with l (word l (codes "about") ∷ []) (listed l (r ∷ rs)) (word_goes l (codes "about") (about_is l))
    (from_closing l (listed l (r ∷ rs)) Closing (listed_pass l r rs h))

-- Bounds: `*` stands behind `[` and `..`.

abbrev Limits : Printed → Type 0
Limits p = Taking p × Apart p (sign (codes "*"))

bracket_limits : Limits (sign (codes "["))
unfolding signs
bracket_limits = (sign_taking (codes "[") bracket_sign, λ g. (stops_sign (codes "[") [] 42 refl, λ q. cc))

dots_limits : Limits (sign (codes ".."))
unfolding signs
dots_limits = (sign_taking (codes "..") dots_sign, λ g. (stops_sign (codes "..") [] 42 refl, λ q. cc))

limit_passes : (d : Data) (x : Limit) → IsWrittenLimit d (Some x) → Passes d.language Limits (limit_tokens d x) Closing
limit_passes d (limit.Number i) h =
    passes_from d.language Limits Ready Closing (number (signed_decimal i) ∷ []) (λ p k. inr k.0)
    (subst (λ j. Passes d.language Ready (number (signed_decimal j) ∷ []) Closing) (sym h.1) (number_passes d.language h.0 h.2))
limit_passes d (limit.Named r) h = passes_from d.language Limits Ready Closing (named d.language (path_at d r)) (λ p k. inr k.0)
    (named_passes d.language (path_at d r) h)
limit_passes d limit.Star h = passes_more d.language Limits Closing Closing (sign (codes "*")) [] (sign_fit d.language (codes "*") star_sign)
    (λ p k. k.1) star_closes (passes_none d.language Closing)

bounds_shut : (l : Language) (ps : List Printed) → Passes l Limits ps Closing → Goes l (sign (codes "[") ∷ (ps ++ sign (codes "]") ∷ []))
bounds_shut l ps h =
    passes_more l Closing Limits Closing (sign (codes "[")) _ (sign_fit l (codes "[") bracket_sign) (λ p c. closing_apart p (sign (codes "[")) c) bracket_limits
    (passes_on l Limits Closing Closing ps (sign (codes "]") ∷ []) h (closing_passes l (codes "]") bracket_end bracket_closes))

limits_go : (d : Data) (lower upper : Option Limit) → IsWrittenLimit d lower → IsWrittenLimit d upper
    → Goes d.language (sign (codes "[") ∷ (limits_in d lower upper ++ sign (codes "]") ∷ []))
limits_go d None None h k =
    passes_more d.language Closing Ready Closing (sign (codes "[")) (sign (codes "]") ∷ [])
    (sign_fit d.language (codes "[") bracket_sign) (λ p c. closing_apart p (sign (codes "[")) c) (inr bracket_limits.0)
    (passes_more d.language Ready Closing Closing (sign (codes "]")) [] (sign_fit d.language (codes "]") bracket_end)
    (λ p r. ready_apart p (sign (codes "]")) r refl) bracket_closes (passes_none d.language Closing))
limits_go d None (Some u) h k = bounds_shut d.language (limit_tokens d u) (limit_passes d u k)
limits_go d (Some b) None h k = bounds_shut d.language (limit_tokens d b) (limit_passes d b h)
limits_go d (Some b) (Some u) h k = bounds_shut d.language (limit_tokens d b ++ (sign (codes "..") ∷ limit_tokens d u))
    (passes_on d.language Limits Closing Closing (limit_tokens d b) (sign (codes "..") ∷ limit_tokens d u) (limit_passes d b h)
    (passes_more d.language Closing Limits Closing (sign (codes "..")) (limit_tokens d u) (sign_fit d.language (codes "..") dots_sign)
    (λ p c. closing_apart p (sign (codes "..")) c) dots_limits (limit_passes d u k)))

bounds_go : (d : Data) (b : Option Bounds) → AreWrittenBounds d b → Goes d.language (bounds_tokens d b)
bounds_go d None h = goes_none d.language
bounds_go d (Some b) h = limits_go d b.lower b.upper h.0 h.1

-- Values.

-- an expression
pub expression_passes : (d : Data) (ns : List Node) → AreWrittenNodes d (Some ns) → Passes d.language Ready (expression d ns) Closing
expression_passes d ns h =
    subst (λ ts. Passes d.language Ready (printed d.language (first_tree ts)) Closing) (sym h.1) (printed_passes d.language h.0 h.2)

value_goes : (d : Data) (b : Bool) (ns : Option (List Node)) → AreWrittenNodes d ns → Goes d.language (value_tokens d b ns)
value_goes d b None h = goes_none d.language
value_goes d b (Some ns) h = goes_on_with d.language (word_if d.language b (codes "default")) (sign (codes "=") ∷ expression d ns)
    (word_if_goes d.language b (codes "default") (default_is d.language))
    (sign_then d.language (codes "=") (expression d ns) equals_sign (expression_passes d ns h))

-- Ends: behind an operand's end, or a sign with a space behind it.

-- behind an operand's end, or behind a sign with a space
abbrev pub Spaced : Printed → Type 0
Spaced p = Closing p ⊎ Loose p

-- where an operand may begin
pub spaced_ready : (p : Printed) → Spaced p → Ready p
spaced_ready p (inl c) = inl c
spaced_ready p (inr c) = inr c.takes

-- the same from any condition under which the first token is apart
passes_first : (l : Language) (P Q : Printed → Type 0) (q : Printed) (qs : List Printed) → ((p : Printed) → P p → Apart p q) → Passes l Closing (q ∷ qs) Q
    → Passes l P (q ∷ qs) Q
passes_first l P Q q qs apart h = λ p a.
    let k = h (name l (codes "x")) (name_closes l (codes "x")) in
    ((k.0.0, apart p a, k.0.2), k.1)

spaced_to : (l : Language) (P : Printed → Type 0) (ps : List Printed) → ((p : Printed) → Spaced p → P p) → Passes l P ps Closing → Passes l P ps P
spaced_to l P ps from h = passes_to l P Closing P ps (λ p c. from p (inl c)) h

end_bounds : (P : Printed → Type 0) → ((p : Printed) → Spaced p → P p) → ((p : Printed) → P p → Ready p) → (d : Data) (b : Option Bounds) → AreWrittenBounds d b
    → Passes d.language P (bounds_tokens d b) P
end_bounds P from to d None h = passes_none d.language P
end_bounds P from to d (Some b) h = spaced_to d.language P (bounds_tokens d (Some b)) from
    (passes_first d.language P Closing (sign (codes "[")) (limits_in d b.lower b.upper ++ sign (codes "]") ∷ [])
    (λ p a. ready_apart p (sign (codes "[")) (to p a) refl) (bounds_go d (Some b) h))

refer_loose : Loose (sign (codes "::>"))
refer_loose = record { loose = refl; shut = refl; takes = sign_taking (codes "::>") refer_sign }

equals_loose : Loose (sign (codes "="))
equals_loose = record { loose = refl; shut = refl; takes = sign_taking (codes "=") equals_sign }

end_names : (P : Printed → Type 0) → ((p : Printed) → Spaced p → P p) → ((p : Printed) → P p → Ready p) → (l : Language) (s : Option (List ℕ)) → IsSpellableIn s
    → Passes l P (end_name l s) P
end_names P from to l None h = passes_none l P
end_names P from to l (Some s) h =
    passes_on l P Closing P (name l s ∷ []) (sign (codes "::>") ∷ []) (passes_from l P Ready Closing (name l s ∷ []) to (name_passes l s h))
    (passes_more l Closing P P (sign (codes "::>")) [] (sign_fit l (codes "::>") refer_sign) (λ p c. closing_apart p (sign (codes "::>")) c)
    (from (sign (codes "::>")) (inr refer_loose)) (passes_none l P))

end_listed : (P : Printed → Type 0) → ((p : Printed) → Spaced p → P p) → ((p : Printed) → P p → Ready p) → (l : Language) (rs : List Reference) → AreWritten rs
    → Passes l P (listed l rs) P
end_listed P from to l [] h = passes_none l P
end_listed P from to l (r ∷ rs) h = spaced_to l P (listed l (r ∷ rs)) from (passes_from l P Ready Closing (listed l (r ∷ rs)) to (listed_pass l r rs h))

-- an end, under any condition that lies between these two
end_passes : (P : Printed → Type 0) → ((p : Printed) → Spaced p → P p) → ((p : Printed) → P p → Ready p) → (d : Data) (n : ℕ)
    → IsWrittenElement d n (element_at d n) → AreWritten d.references
    → Passes d.language P (end_tokens d n) P
end_passes P from to d n h rs =
    passes_on d.language P P P (bounds_tokens d (element_at d n).bounds) _ (end_bounds P from to d (element_at d n).bounds h.bounds)
    (passes_on d.language P P P (end_name d.language (element_at d n).name) (listed d.language (references_in d is_specialisation n))
    (end_names P from to d.language (element_at d n).name h.name)
    (end_listed P from to d.language (references_in d is_specialisation n) (every_where _ _ d.references rs)))

end_spaced : (d : Data) (n : ℕ) → CanBeWritten d → Passes d.language Spaced (end_tokens d n) Spaced
end_spaced d n w = end_passes Spaced (λ p a. a) spaced_ready d n (w.elements n) w.references

end_ready : (d : Data) (n : ℕ) → CanBeWritten d → Passes d.language Ready (end_tokens d n) Ready
end_ready d n w = end_passes Ready spaced_ready (λ p a. a) d n (w.elements n) w.references

end_list_ready : (d : Data) (ns : List ℕ) → CanBeWritten d → Passes d.language Ready (end_list d ns) Ready
end_list_ready d [] w = passes_none d.language Ready
end_list_ready d (n ∷ []) w = end_ready d n w
end_list_ready d (n ∷ m ∷ ns) w =
    passes_on d.language Ready Ready Ready (end_tokens d n) (sign (codes ",") ∷ end_list d (m ∷ ns)) (end_ready d n w)
    (passes_on d.language Ready Ready Ready (sign (codes ",") ∷ []) (end_list d (m ∷ ns)) (opening_passes d.language (codes ",") comma_sign refl)
    (end_list_ready d (m ∷ ns) w))

-- the words that stand around ends
record EndWords (l : Language) : Type 0 where
  pub connect : is_word_of l (codes "connect") ≡ true
  pub between : is_word_of l (codes "to") ≡ true
  pub bind : is_word_of l (codes "bind") ≡ true

sysml_words : EndWords Sysml
unfolding words
sysml_words = record { connect = refl; between = refl; bind = refl }

to_spaced : (l : Language) (P : Printed → Type 0) (ps : List Printed) → Passes l P ps Closing → Passes l P ps Spaced
to_spaced l P ps h = passes_to l P Closing Spaced ps (λ p c. inl c) h

binding_passes : (d : Data) (a b : ℕ) → CanBeWritten d → EndWords d.language
    → Passes d.language Closing (word d.language (codes "bind") ∷ (end_tokens d a ++ (sign (codes "=") ∷ end_tokens d b))) Spaced
binding_passes d a b w k =
    passes_on d.language Closing Spaced Spaced (word d.language (codes "bind") ∷ []) _
    (to_spaced d.language Closing (word d.language (codes "bind") ∷ []) (word_goes d.language (codes "bind") k.bind))
    (passes_on d.language Spaced Spaced Spaced (end_tokens d a) (sign (codes "=") ∷ end_tokens d b) (end_spaced d a w)
    (passes_more d.language Spaced Spaced Spaced (sign (codes "=")) (end_tokens d b) (sign_fit d.language (codes "=") equals_sign) equals_apart
    (inr equals_loose) (end_spaced d b w)))
  where
    equals_apart : (p : Printed) → Spaced p → Apart p (sign (codes "="))
    equals_apart p (inl c) = closing_apart p (sign (codes "=")) c
    equals_apart p (inr c) = spaced_apart p (sign (codes "=")) c.loose c.shut refl

pair_passes : (d : Data) (a b : ℕ) → CanBeWritten d → EndWords d.language
    → Passes d.language Closing (word d.language (codes "connect") ∷ (end_tokens d a ++ (word d.language (codes "to") ∷ end_tokens d b))) Spaced
pair_passes d a b w k =
    passes_on d.language Closing Spaced Spaced (word d.language (codes "connect") ∷ []) _
    (to_spaced d.language Closing (word d.language (codes "connect") ∷ []) (word_goes d.language (codes "connect") k.connect))
    (passes_on d.language Spaced Spaced Spaced (end_tokens d a) (word d.language (codes "to") ∷ end_tokens d b) (end_spaced d a w)
    (passes_on d.language Spaced Spaced Spaced (word d.language (codes "to") ∷ []) (end_tokens d b)
    (to_spaced d.language Spaced (word d.language (codes "to") ∷ [])
    (passes_from d.language Spaced Ready Closing (word d.language (codes "to") ∷ []) spaced_ready (word_passes d.language (codes "to") k.between)))
    (end_spaced d b w)))

many_passes : (d : Data) (ns : List ℕ) → CanBeWritten d → EndWords d.language
    → Passes d.language Closing (word d.language (codes "connect") ∷ sign (codes "(") ∷ (end_list d ns ++ sign (codes ")") ∷ [])) Spaced
many_passes d ns w k =
    passes_on d.language Closing Closing Spaced (word d.language (codes "connect") ∷ []) (sign (codes "(") ∷ (end_list d ns ++ sign (codes ")") ∷ []))
    (word_goes d.language (codes "connect") k.connect)
    (passes_on d.language Closing Ready Spaced (sign (codes "(") ∷ []) _ (sign_passes d.language (codes "(") round_sign)
    (passes_on d.language Ready Ready Spaced (end_list d ns) (sign (codes ")") ∷ []) (end_list_ready d ns w)
    (passes_more d.language Ready Spaced Spaced (sign (codes ")")) [] (sign_fit d.language (codes ")") round_end)
    (λ p r. ready_apart p (sign (codes ")")) r refl) (inl close_closes) (passes_none d.language Spaced))))

ends_pass : (d : Data) (k : Kind) (ns : List ℕ) → CanBeWritten d → (ns ≡ []) ⊎ EndWords d.language → Passes d.language Closing (ends_tokens d k ns) Spaced
ends_pass d kind.Binding (a ∷ b ∷ []) w (inr k) = binding_passes d a b w k
ends_pass d kind.Binding [] w o = to_spaced d.language Closing [] (goes_none d.language)
ends_pass d kind.Binding (a ∷ []) w (inr k) = many_passes d (a ∷ []) w k
ends_pass d kind.Binding (a ∷ b ∷ c ∷ ns) w (inr k) = many_passes d (a ∷ b ∷ c ∷ ns) w k
ends_pass d kind.Binding (a ∷ ns) w (inl e) = cc
ends_pass d other [] w o = to_spaced d.language Closing [] (goes_none d.language)
ends_pass d other (a ∷ b ∷ []) w (inr k) = pair_passes d a b w k
ends_pass d other (a ∷ []) w (inr k) = many_passes d (a ∷ []) w k
ends_pass d other (a ∷ b ∷ c ∷ ns) w (inr k) = many_passes d (a ∷ b ∷ c ∷ ns) w k
ends_pass d other (a ∷ ns) w (inl e) = cc

-- Heads.

kinds_go : (l : Language) (p : PartOf) (k : Kind) → is_kind_of l p k ≡ true → Goes l (kind_words l p k)
kinds_go l part.Subject k e = word_goes l (codes "subject") e
kinds_go l other kind.Reference e = goes_none l
kinds_go l other k e = words_go l (parted (kind_word k)) e

before_go : (d : Data) (v : Visibility) (n : ℕ) (e : Element) → IsWrittenElement d n e → HasWords d.language e → Goes d.language (before_names d v e)
before_go d v n e h k =
    goes_on_with d.language (member_visibility d.language v) _ (visibility_goes d.language v)
    (goes_on_with d.language (part_words d.language e.marks.part_of) _ (part_goes d.language e.marks.part_of k.part)
    (goes_on_with d.language (prefixes d.language e.marks) _ (prefixes_go d.language e.marks)
    (goes_on_with d.language (word_if d.language e.marks.standard (codes "standard")) _
    (word_if_goes d.language e.marks.standard (codes "standard") (standard_is d.language))
    (goes_on_with d.language (word_if d.language e.marks.library (codes "library")) _
    (word_if_goes d.language e.marks.library (codes "library") (library_is d.language))
    (goes_on_with d.language (kind_words d.language e.marks.part_of e.kind) _ (kinds_go d.language e.marks.part_of e.kind k.kind)
    (names_go d.language e.short e.name h.short h.name))))))

-- all before a body
pub head_passes : (d : Data) (v : Visibility) (n : ℕ) → CanBeWritten d → HasWords d.language (element_at d n) → Passes d.language Closing (head d v n) Spaced
head_passes d v n w k =
    let e = element_at d n in
    let h = w.elements n in
    passes_on d.language Closing Closing Spaced (before_names d v e) _ (before_go d v n e h k)
    (passes_on d.language Closing Closing Spaced (specialisations d.language None (references_in d is_specialisation n)) _
    (specialisations_go d.language None (references_in d is_specialisation n) (every_where _ _ d.references w.references))
    (passes_on d.language Closing Closing Spaced (bounds_tokens d e.bounds) _ (bounds_go d e.bounds h.bounds)
    (passes_on d.language Closing Closing Spaced (word_if d.language e.marks.ordered (codes "ordered")) _
    (word_if_goes d.language e.marks.ordered (codes "ordered") (ordered_is d.language))
    (passes_on d.language Closing Closing Spaced (word_if d.language e.marks.nonunique (codes "nonunique")) _
    (word_if_goes d.language e.marks.nonunique (codes "nonunique") (nonunique_is d.language))
    (passes_on d.language Closing Closing Spaced (value_tokens d e.marks.default e.value) _ (value_goes d e.marks.default e.value h.value)
    (ends_pass d e.kind (ends_of d n) w (words_there h.ends)))))))
  where
    words_there : (ends_of d n ≡ []) ⊎ (d.language ≡ Sysml) → (ends_of d n ≡ []) ⊎ EndWords d.language
    words_there (inl e) = inl e
    words_there (inr e) = inr (subst EndWords (sym e) sysml_words)

-- Notes, aliases, imports.

-- no condition
abbrev pub Anything : Printed → Type 0
Anything p = Unit {0}

locale_goes : (l : Language) (s : Option (List ℕ)) → IsSpellableIn s → Goes l (locale_tokens l s)
locale_goes l None h = goes_none l
locale_goes l (Some s) h = goes_on_with l (word l (codes "locale") ∷ []) (text s ∷ []) (word_goes l (codes "locale") (locale_is l))
    (from_closing l (text s ∷ []) Closing (text_passes l s h))

-- a comment
pub note_passes : (d : Data) (v : Visibility) (n : ℕ) → CanBeWritten d → HasWords d.language (element_at d n)
    → Passes d.language Closing (note_tokens d v n) Anything
note_passes d v n w k =
    let e = element_at d n in
    let h = w.elements n in
    passes_on d.language Closing Closing Anything (before_names d v e) _ (before_go d v n e h k)
    (passes_on d.language Closing Closing Anything (abouts d.language (references_in d is_about n)) _
    (abouts_go d.language (references_in d is_about n) (every_where _ _ d.references w.references))
    (passes_on d.language Closing Closing Anything (locale_tokens d.language e.locale) (note (body_bytes e.body) ∷ [])
    (locale_goes d.language e.locale h.locale)
    (passes_more d.language Closing Anything Anything (note (body_bytes e.body)) []
    (body_bytes e.body ++ codes "*/", h.body, IsUtf8-append (body_bytes e.body) (codes "*/") h.said (low_utf8 (codes "*/") refl), refl)
    (λ p c. closing_apart p (note (body_bytes e.body)) c) tt (passes_none d.language Anything))))

semicolon_passes : (l : Language) → Goes l (sign (codes ";") ∷ [])
semicolon_passes l = closing_passes l (codes ";") semicolon_sign semicolon_closes

-- an alias
pub alias_passes : (d : Data) (m : Member) (r : ℕ) → IsSpellableIn m.short → IsSpellableIn m.name → IsWrittenPath (path_at d r)
    → Goes d.language (alias_tokens d m r)
alias_passes d m r h k p =
    goes_on_with d.language (member_visibility d.language m.visibility) _ (visibility_goes d.language m.visibility)
    (goes_on_with d.language (word d.language (codes "alias") ∷ []) _ (word_goes d.language (codes "alias") (alias_is d.language))
    (goes_on_with d.language (names d.language m.short m.name) _ (names_go d.language m.short m.name h k)
    (goes_on_with d.language (word d.language (codes "for") ∷ []) _ (word_goes d.language (codes "for") (for_is d.language))
    (goes_on_with d.language (named d.language (path_at d r)) _
    (from_closing d.language (named d.language (path_at d r)) Closing (named_passes d.language (path_at d r) p)) (semicolon_passes d.language)))))

star_apart : Apart (sign (codes "::")) (sign (codes "*"))
unfolding signs
star_apart g = (stops_sign (codes "::") [] 42 refl, λ q. cc)

stars_apart : Apart (sign (codes "::")) (sign (codes "**"))
unfolding signs
stars_apart g = (stops_sign (codes "::") [] 42 refl, λ q. cc)

colons_sign : is_some (place_in signs (codes "::")) ≡ true
unfolding signs
colons_sign = refl

starred : (l : Language) (b : Bool) (bytes : List ℕ) → is_some (place_in signs bytes) ≡ true → Apart (sign (codes "::")) (sign bytes) → Closing (sign bytes)
    → Goes l (star_tokens b bytes)
starred l false bytes e a c = goes_none l
starred l true bytes e a c =
    passes_more l Closing (λ p. p ≡ sign (codes "::")) Closing (sign (codes "::")) (sign bytes ∷ []) (sign_fit l (codes "::") colons_sign)
    (λ p k. closing_apart p (sign (codes "::")) k) refl
    (passes_more l (λ p. p ≡ sign (codes "::")) Closing Closing (sign bytes) [] (sign_fit l bytes e) (λ p q. subst (λ x. Apart x (sign bytes)) (sym q) a) c
    (passes_none l Closing))

-- an import
pub import_passes : (d : Data) (i : Import) → IsWrittenPath (path_at d i.reference) → Goes d.language (import_tokens d i)
import_passes d i p =
    let last = sign (codes ";") ∷ [] in
    let stars = star_tokens i.star (codes "*") ++ (star_tokens i.recursive (codes "**") ++ last) in
    let rest = word_if d.language i.all (codes "all") ++ (named d.language (path_at d i.reference) ++ stars) in
    goes_on_with d.language (word d.language (visibility_word i.visibility) ∷ []) (word d.language (codes "import") ∷ rest)
    (word_goes d.language (visibility_word i.visibility) (visibility_is d.language i.visibility))
    (goes_on_with d.language (word d.language (codes "import") ∷ []) rest (word_goes d.language (codes "import") (import_is d.language))
    (goes_on_with d.language (word_if d.language i.all (codes "all")) _ (word_if_goes d.language i.all (codes "all") (all_is d.language))
    (goes_on_with d.language (named d.language (path_at d i.reference)) _
    (from_closing d.language (named d.language (path_at d i.reference)) Closing (named_passes d.language (path_at d i.reference) p))
    (goes_on_with d.language (star_tokens i.star (codes "*")) (star_tokens i.recursive (codes "**") ++ last)
    (starred d.language i.star (codes "*") star_sign star_apart star_closes)
    (goes_on_with d.language (star_tokens i.recursive (codes "**")) last (starred d.language i.recursive (codes "**") stars_sign stars_apart stars_closes)
    (semicolon_passes d.language))))))
