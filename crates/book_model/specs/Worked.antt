-- Worked examples: a book of three files and what it answers.
--   b.sysml  part c : 'C c';
--            part q :> c.engine;
--            part r :> none;
--   c.sysml  part p : ;
--   a.sysml  part def V { part engine; }
--            part def 'C c' :> V { part :>> engine; }
use Rattle.std.specs.Prelude.{◌≡◌, ℕ, Bool, true, false, List, [], ◌∷◌, ◌++◌, Some, None, codes, refl}
use Rattle.std.specs.Fmt.{digits}
use Rattle.demand_core.specs.Least.{least, stage}
use Rattle.demand_core.specs.Gather.{gather}
use Rattle.element_store.specs.declared.outcome.Language.TheVariants.{Kerml, Sysml}
use Rattle.element_store.specs.declared.outcome.Role.TheVariants as role
use Rattle.element_store.specs.declared.kind.Kind.TheVariants as kind
use Rattle.element_store.specs.declared.records.Reference.{Reference}
use Rattle.element_store.specs.Model.{Data, root_element}
use Rattle.token_core.specs.Words.{words, signs}
use Rattle.text_model.specs.declared.fault.FileFault.TheVariants.{Syntax}
use Rattle.link_model.specs.Names.{names_from}
use Rattle.link_model.specs.Imports.{visible_from}
use Rattle.link_model.specs.Written.{alias, brings, data_of, thing, nameless, owned, owned_as, refers}
use Rattle.element_store.specs.declared.kind.Visibility.TheVariants.{Private, Public}
use Rattle.token_core.specs.declared.token.Token.{Token}
use Rattle.token_core.specs.declared.token.TokenKind.TheVariants.{Name, Sign}
use Rattle.book_model.specs.declared.asked_name.AskedName.{AskedName}
use Rattle.book_model.specs.declared.edit.Edit.TheVariants as edit
use Rattle.book_model.specs.AskedNames.{name_by}
use Rattle.book_model.specs.Book.{Book, Edited, edited}
use Rattle.book_model.specs.Readings.{Reading}
use Rattle.book_model.specs.Files.{ProjectFile}
use Rattle.book_model.specs.Queries.{names_query}
use Rattle.book_model.specs.Labels.{label_of}
use Rattle.book_model.specs.Printed.{place_text}
use Rattle.book_model.specs.Places.{place_of}
use Rattle.book_model.specs.Spelling.{written_name}
use Rattle.book_model.specs.Answers.{Command, Answers, book_after, find_answer}

-- the text of the first file
abbrev pub uses_text : List ℕ
uses_text = codes "part c : 'C c';\npart q :> c.engine;\npart r :> none;\n"

-- a text with a fault
abbrev pub faulty_text : List ℕ
faulty_text = codes "part p : ;"

-- a text with two types
abbrev pub types_text : List ℕ
types_text = codes "part def V { part engine; }\npart def 'C c' :> V { part :>> engine; }\n"

-- the chain `c.engine`, written in the element of that number
abbrev pub chained : Reference
chained = record (refers role.Subsetting 2 (codes "c" ∷ [])) { chain = codes "engine" ∷ [] }

-- the model of the first text
abbrev pub uses_model : Data
uses_model = record (data_of 0
    (root_element
    ∷ thing kind.Part 0 (codes "c")
    ∷ thing kind.Part 0 (codes "q")
    ∷ thing kind.Part 0 (codes "r")
    ∷ [])
    (owned 0 1 (codes "c") ∷ owned 0 2 (codes "q") ∷ owned 0 3 (codes "r") ∷ [])
    (refers role.Typing 1 (codes "C c" ∷ []) ∷ chained ∷ refers role.Subsetting 3 (codes "none" ∷ []) ∷ [])
    []) { member_places = 0 ∷ 16 ∷ 36 ∷ []; reference_places = 9 ∷ 26 ∷ 46 ∷ [] }

-- the model of the third text
abbrev pub types_model : Data
types_model = record (data_of 2
    (root_element
    ∷ thing kind.PartDef 0 (codes "V")
    ∷ thing kind.Part 1 (codes "engine")
    ∷ thing kind.PartDef 0 (codes "C c")
    ∷ nameless kind.Part 3
    ∷ [])
    (owned 0 1 (codes "V") ∷ owned 1 2 (codes "engine") ∷ owned 0 3 (codes "C c") ∷ owned_as Public 3 4 None ∷ [])
    (refers role.Subclass 3 (codes "V" ∷ []) ∷ refers role.Redefinition 4 (codes "engine" ∷ []) ∷ [])
    []) { member_places = 0 ∷ 13 ∷ 28 ∷ 50 ∷ []; reference_places = 46 ∷ 59 ∷ [] }

-- the file of the book with that text, read so
abbrev pub file_with : List ℕ → List ℕ → Reading → ProjectFile
file_with name text reading =
    record { name = name; library = false; content = Some (record { text = text; reading = reading }) }

-- the book in which they arrived
abbrev pub book : Book
book = (codes "b.sysml", Some uses_text) ∷ (codes "c.sysml", Some faulty_text)
    ∷ (codes "a.sysml", Some types_text) ∷ []

-- and its files
abbrev pub files : List ProjectFile
files =
    file_with (codes "b.sysml") uses_text (Reading.Model uses_model)
    ∷ file_with (codes "c.sysml") faulty_text (Reading.Fault (Syntax 9))
    ∷ file_with (codes "a.sysml") types_text (Reading.Model types_model)
    ∷ []

-- shown: a quoted name, a chain to a nested element without a name, and a name that nothing bears
pub links_of_uses : Answers book files (Command.Links (codes "b.sysml")) (
    codes "1:10 typing 'C c' -> linked a.sysml 'C c'\n"
    ++ codes "2:11 subset c.engine -> linked a.sysml 'C c'::#4\n"
    ++ codes "3:11 subset none -> absent 1\n"
    ++ codes "links b.sysml 3\n")
unfolding least stage gather names_from visible_from words signs digits
links_of_uses = refl

-- shown: the fault of a file and a link that is refused, in byte order of names, and the counts
pub check_of_files : Answers book files Command.Check (
    codes "b.sysml:3:11 subset none -> absent 1\n"
    ++ codes "c.sysml:1:10 refused Syntax\n"
    ++ codes "check files 3 references 5 faults 2\n")
unfolding least stage gather names_from visible_from words signs digits
check_of_files = refl

-- shown: a put of a text within the profile
pub put_of_uses : Answers [] files (Command.Put (codes "b.sysml") uses_text)
    (codes "put b.sysml elements 3 references 3\n")
unfolding digits
put_of_uses = refl

-- shown: a put of a text with a fault
pub put_of_faulty : Answers [] files (Command.Put (codes "c.sysml") faulty_text)
    (codes "put c.sysml refused 1:10 Syntax\n")
unfolding digits
put_of_faulty = refl

-- shown: a name that isn't there
pub links_without_file : Answers book files (Command.Links (codes "x.sysml")) (codes "links x.sysml no file\n")
links_without_file = refl

-- shown: printing a text with a fault
pub print_of_faulty : Answers book files (Command.Print (codes "c.sysml")) (codes "print c.sysml refused 1:10 Syntax\n")
unfolding digits
print_of_faulty = refl

-- shown: printing a name that isn't there
pub print_without_file : Answers book files (Command.Print (codes "x.sysml")) (codes "print x.sysml no file\n")
print_without_file = refl

-- shown: a drop of a text
pub drop_of_file : Answers book files (Command.Drop (codes "c.sysml")) (codes "drop c.sysml done\n")
drop_of_file = refl

-- shown: a dropped name keeps its place
pub dropped_once : book_after book (Command.Drop (codes "c.sysml"))
    ≡ (codes "b.sysml", Some uses_text) ∷ (codes "c.sysml", None) ∷ (codes "a.sysml", Some types_text) ∷ []
dropped_once = refl

-- shown: and a second drop changes nothing
pub dropped_twice : edited (book_after book (Command.Drop (codes "c.sysml"))) (edit.Drop (codes "c.sysml"))
    ≡ Edited.NotThere
dropped_twice = refl

-- shown: names rise in byte order, and one comes before the longer ones that begin like it
pub ranked_names : names_query (file_with (codes "b.sysml") [] (Reading.Fault (Syntax 0))
    ∷ file_with (codes "a.sysml.sysml") [] (Reading.Fault (Syntax 0))
    ∷ record { name = codes "c.sysml"; library = false; content = None }
    ∷ file_with (codes "a.sysml") [] (Reading.Fault (Syntax 0)) ∷ [])
    ≡ codes "a.sysml" ∷ codes "a.sysml.sysml" ∷ codes "b.sysml" ∷ []
ranked_names = refl

-- shown: where a name needs quotes hangs on the language, and `$::` stands first
pub reserved_in_sysml : written_name Sysml true (codes "part" ∷ codes "in" ∷ codes "x1" ∷ []) []
    ≡ codes "$::'part'::'in'::x1"
unfolding words
reserved_in_sysml = refl

-- shown: `part` is no reserved word of KerML
pub reserved_in_kerml : written_name Kerml true (codes "part" ∷ codes "in" ∷ codes "x1" ∷ []) []
    ≡ codes "$::part::'in'::x1"
unfolding words
reserved_in_kerml = refl

-- shown: escapes, the name with no byte, and a name that begins with a digit
pub escaped_names : written_name Sysml false (codes "it's" ∷ []) ([] ∷ codes "a\nb" ∷ codes "7" ∷ [])
    ≡ codes "'it\\'s'.''.'a\\nb'.'7'"
unfolding words
escaped_names = refl

-- shown: the root has no part in a label
pub label_below_root : label_of types_model 2 ≡ codes "V::engine"
unfolding words digits
label_below_root = refl

-- shown: the root's label is empty
pub label_of_root : label_of types_model 0 ≡ []
label_of_root = refl

-- shown: places begin at 1:1
pub place_of_start : place_text (place_of uses_text 0) ≡ codes "1:1"
unfolding digits
place_of_start = refl

-- shown: a line feed stands on the line that it ends
pub place_of_line_feed : place_text (place_of uses_text 15) ≡ codes "1:16"
unfolding digits
place_of_line_feed = refl

-- shown: the next line begins behind it
pub place_behind_it : place_text (place_of uses_text 16) ≡ codes "2:1"
unfolding digits
place_behind_it = refl

-- Two aliases in a circle.
--   a.sysml  alias a for b;
--   b.sysml  alias b for a;
abbrev pub circle : List ProjectFile
circle =
    file_with (codes "a.sysml") (codes "alias a for b;") (Reading.Model (record (data_of 0
    (root_element ∷ []) (alias 0 0 (codes "a") ∷ []) (refers role.Alias 0 (codes "b" ∷ []) ∷ []) [])
    { member_places = 0 ∷ []; reference_places = 12 ∷ [] }))
    ∷ file_with (codes "b.sysml") (codes "alias b for a;") (Reading.Model (record (data_of 1
    (root_element ∷ []) (alias 0 0 (codes "b") ∷ []) (refers role.Alias 0 (codes "a" ∷ []) ∷ []) [])
    { member_places = 0 ∷ []; reference_places = 12 ∷ [] }))
    ∷ []

-- shown: each is cyclic on the other
pub links_in_circle : Answers [] circle (Command.Links (codes "a.sysml")) (
    codes "1:13 alias b -> cyclic b.sysml:1:13\nlinks a.sysml 1\n")
unfolding least stage gather names_from visible_from words signs digits
links_in_circle = refl

-- Files of one book over a library.
--   $lib/Parts.sysml  package Parts { part def Part; }
--   a.sysml           package A { part x; }
--                     package B { private part x; }
--                     package C { part p :> x; part q :> B::x; private import A::*; public import Parts::*; }
--   c.sysml           package C;
--   b.sysml           part r :> C;
--                     part s :> $::Parts::Part;
abbrev pub packages_text : List ℕ
packages_text =
    codes "package A { part x; }\npackage B { private part x; }\n"
    ++ codes "package C { part p :> x; part q :> B::x; private import A::*; public import Parts::*; }\n"

-- a text that looks up the roots of all files
abbrev pub roots_text : List ℕ
roots_text = codes "part r :> C;\npart s :> $::Parts::Part;\n"

-- the model of the library's file
abbrev pub library_model : Data
library_model = record (data_of 0
    (root_element ∷ thing kind.Package 0 (codes "Parts") ∷ thing kind.PartDef 1 (codes "Part") ∷ [])
    (owned 0 1 (codes "Parts") ∷ owned 1 2 (codes "Part") ∷ []) [] [])
    { member_places = 0 ∷ 16 ∷ []; reference_places = [] }

-- the model of the text of packages
abbrev pub packages_model : Data
packages_model = record (data_of 1
    (root_element
    ∷ thing kind.Package 0 (codes "A")
    ∷ thing kind.Part 1 (codes "x")
    ∷ thing kind.Package 0 (codes "B")
    ∷ thing kind.Part 3 (codes "x")
    ∷ thing kind.Package 0 (codes "C")
    ∷ thing kind.Part 5 (codes "p")
    ∷ thing kind.Part 5 (codes "q")
    ∷ [])
    (owned 0 1 (codes "A")
    ∷ owned 1 2 (codes "x")
    ∷ owned 0 3 (codes "B")
    ∷ owned_as Private 3 4 (Some (codes "x"))
    ∷ owned 0 5 (codes "C")
    ∷ owned 5 6 (codes "p")
    ∷ owned 5 7 (codes "q")
    ∷ [])
    (refers role.Import 5 (codes "A" ∷ [])
    ∷ refers role.Import 5 (codes "Parts" ∷ [])
    ∷ refers role.Subsetting 6 (codes "x" ∷ [])
    ∷ refers role.Subsetting 7 (codes "B" ∷ codes "x" ∷ [])
    ∷ [])
    (brings Private 5 0 true ∷ brings Public 5 1 true ∷ []))
    { member_places = 0 ∷ 12 ∷ 22 ∷ 34 ∷ 52 ∷ 64 ∷ 77 ∷ []; reference_places = 108 ∷ 128 ∷ 74 ∷ 87 ∷ [] }

-- `$::Parts::Part`, written in the element of that number
abbrev pub rooted : Reference
rooted = record (refers role.Subsetting 2 (codes "Parts" ∷ codes "Part" ∷ [])) { absolute = true }

-- the four files, the library's first
abbrev pub over_library : List ProjectFile
over_library =
    record (file_with (codes "$lib/Parts.sysml") (codes "package Parts { part def Part; }")
    (Reading.Model library_model))
    { library = true }
    ∷ file_with (codes "a.sysml") packages_text (Reading.Model packages_model)
    ∷ file_with (codes "c.sysml") (codes "package C;\n") (Reading.Model (record (data_of 2
    (root_element ∷ thing kind.Package 0 (codes "C") ∷ []) (owned 0 1 (codes "C") ∷ []) [] [])
    { member_places = 0 ∷ [] }))
    ∷ file_with (codes "b.sysml") roots_text (Reading.Model (record (data_of 3
    (root_element ∷ thing kind.Part 0 (codes "r") ∷ thing kind.Part 0 (codes "s") ∷ [])
    (owned 0 1 (codes "r") ∷ owned 0 2 (codes "s") ∷ [])
    (refers role.Subsetting 1 (codes "C" ∷ []) ∷ rooted ∷ []) [])
    { member_places = 0 ∷ 13 ∷ []; reference_places = 10 ∷ 23 ∷ [] }))
    ∷ []

-- shown: rows stand by place where imports are written last, though their references are numbered first
pub links_by_place : Answers [] over_library (Command.Links (codes "a.sysml")) (
    codes "3:23 subset x -> linked a.sysml A::x\n"
    ++ codes "3:36 subset B::x -> hidden 2 a.sysml:2:13\n"
    ++ codes "3:57 import A -> linked a.sysml A\n"
    ++ codes "3:77 import Parts -> linked $lib/Parts.sysml Parts\n"
    ++ codes "links a.sysml 4\n")
unfolding least stage gather names_from visible_from words signs digits
links_by_place = refl

-- shown: two roots of one name, and a name that begins at the roots of all files
pub links_of_roots : Answers [] over_library (Command.Links (codes "b.sysml")) (
    codes "1:11 subset C -> ambiguous 1 a.sysml:3:1 c.sysml:1:1\n"
    ++ codes "2:11 subset $::Parts::Part -> linked $lib/Parts.sysml Parts::Part\n"
    ++ codes "links b.sysml 2\n")
unfolding least stage gather names_from visible_from words signs digits
links_of_roots = refl

-- shown: what is wrong with them, and that a file of the library isn't one of the book
pub check_over_library : Answers [] over_library Command.Check (
    codes "a.sysml:3:36 subset B::x -> hidden 2 a.sysml:2:13\n"
    ++ codes "b.sysml:1:11 subset C -> ambiguous 1 a.sysml:3:1 c.sysml:1:1\n"
    ++ codes "check files 3 references 6 faults 2\n")
unfolding least stage gather names_from visible_from words signs digits
check_over_library = refl

-- shown: a name of the library is no name of the book
pub library_not_listed : Answers [] over_library (Command.Links (codes "$lib/Parts.sysml"))
    (codes "links $lib/Parts.sysml no file\n")
library_not_listed = refl

-- Types over the same library, of which some specialise their bases by their own words.
--   b.sysml  part def A;
--            part def B :> A;
--   a.sysml  enum def C { red; }
--            part def D :> Parts::Part;
abbrev pub typed_files : List ProjectFile
typed_files =
    record (file_with (codes "$lib/Parts.sysml") (codes "package Parts { part def Part; }")
    (Reading.Model library_model))
    { library = true }
    ∷ file_with (codes "b.sysml") (codes "part def A;\npart def B :> A;\n") (Reading.Model (record (data_of 1
    (root_element ∷ thing kind.PartDef 0 (codes "A") ∷ thing kind.PartDef 0 (codes "B") ∷ [])
    (owned 0 1 (codes "A") ∷ owned 0 2 (codes "B") ∷ [])
    (refers role.Subclass 2 (codes "A" ∷ []) ∷ []) [])
    { member_places = 0 ∷ 12 ∷ []; reference_places = 26 ∷ [] }))
    ∷ file_with (codes "a.sysml") (codes "enum def C { red; }\npart def D :> Parts::Part;\n")
    (Reading.Model (record (data_of 2
    (root_element
    ∷ thing kind.EnumDef 0 (codes "C")
    ∷ thing kind.Enumeration 1 (codes "red")
    ∷ thing kind.PartDef 0 (codes "D")
    ∷ [])
    (owned 0 1 (codes "C") ∷ owned 1 2 (codes "red") ∷ owned 0 3 (codes "D") ∷ [])
    (refers role.Subclass 3 (codes "Parts" ∷ codes "Part" ∷ []) ∷ []) [])
    { member_places = 0 ∷ 13 ∷ 20 ∷ []; reference_places = 34 ∷ [] }))
    ∷ []

-- shown: an enumerated value and its enumeration, files by name, and no row where explicit generals reach the base or
-- the library has none
pub implied_over_library : Answers [] typed_files Command.Implied (
    codes "a.sysml:1:14 C::red -> a.sysml C\n"
    ++ codes "b.sysml:1:1 A -> $lib/Parts.sysml Parts::Part\n"
    ++ codes "b.sysml:2:1 B -> $lib/Parts.sysml Parts::Part\n"
    ++ codes "implied 3\n")
unfolding least stage gather names_from visible_from words signs digits
implied_over_library = refl

-- the name that a finding asks for
abbrev asked : Bool → List (List ℕ) → AskedName
asked absolute path = record { absolute = absolute; path = path }

-- shown: a name from the roots of all files, spelt with `$::`, which leads into the library
pub find_in_library : find_answer over_library (Some (asked true (codes "Parts" ∷ codes "Part" ∷ [])))
    ≡ codes "find $::Parts::Part -> linked $lib/Parts.sysml Parts::Part\n"
unfolding least stage gather names_from visible_from words signs digits
find_in_library = refl

-- shown: two roots of one name, and a name that nothing bears, spelt with quotes
pub find_two : find_answer over_library (Some (asked false (codes "C" ∷ [])))
    ≡ codes "find C -> ambiguous 1 a.sysml:3:1 c.sysml:1:1\n"
unfolding least stage gather names_from visible_from words signs digits
find_two = refl

pub find_none : find_answer over_library (Some (asked false (codes "A" ∷ codes "no name" ∷ [])))
    ≡ codes "find A::'no name' -> absent 2\n"
unfolding least stage gather names_from visible_from words signs digits
find_none = refl

-- tokens of words
abbrev name_at_place : ℕ → ℕ → Token
name_at_place at upto = record { kind = Name; from = at; upto = upto }

abbrev sign_at_place : ℕ → ℕ → ℕ → Token
sign_at_place n at upto = record { kind = Sign n; from = at; upto = upto }

-- shown: `$::` and two names, of which one is quoted; spaces between tokens have no effect
pub asks_for_two : name_by (codes "$ ::A::'b c'") (sign_at_place 37 0 1 ∷ sign_at_place 13 2 4 ∷ name_at_place 4 5
    ∷ sign_at_place 13 5 7 ∷ name_at_place 7 12 ∷ [])
    ≡ Some (asked true (codes "A" ∷ codes "b c" ∷ []))
unfolding signs
asks_for_two = refl

-- shown: what ends with `::`, what names nothing, and two names with nothing between them are no qualified names
pub asks_no_end : name_by (codes "A::") (name_at_place 0 1 ∷ sign_at_place 13 1 3 ∷ []) ≡ None
unfolding signs
asks_no_end = refl

pub asks_nothing : name_by [] [] ≡ None
asks_nothing = refl

pub asks_apart : name_by (codes "A B") (name_at_place 0 1 ∷ name_at_place 2 3 ∷ []) ≡ None
unfolding signs
asks_apart = refl
