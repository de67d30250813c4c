-- Short words for models that are written out, as worked rows have them, and their least linking.
use Rattle.std.specs.Prelude.{ℕ, Bool, true, false, List, [], Option, None, Some, map}
use Rattle.demand_core.specs.Least.{least}
use Rattle.element_store.specs.declared.numbers.FileNo.{FileNo}
use Rattle.element_store.specs.declared.numbers.ElementNo.{ElementNo}
use Rattle.element_store.specs.declared.numbers.MemberNo.{MemberNo}
use Rattle.element_store.specs.declared.outcome.Language.TheVariants.{Sysml}
use Rattle.element_store.specs.declared.outcome.Role.{Role}
use Rattle.element_store.specs.declared.outcome.Outcome.{Outcome}
use Rattle.element_store.specs.declared.outcome.Outcome.TheVariants.{Linked}
use Rattle.element_store.specs.declared.kind.Kind.{Kind}
use Rattle.element_store.specs.declared.kind.Visibility.{Visibility}
use Rattle.element_store.specs.declared.kind.Visibility.TheVariants.{Public}
use Rattle.element_store.specs.declared.records.Element.{Element}
use Rattle.element_store.specs.declared.records.Member.{Member}
use Rattle.element_store.specs.declared.records.Target.TheVariants.{Owned, Alias}
use Rattle.element_store.specs.declared.records.Reference.{Reference}
use Rattle.element_store.specs.declared.records.Import.{Import}
use Rattle.element_store.specs.declared.models.StoredFile.{StoredFile}
use Rattle.element_store.specs.Model.{Data, root_element}
use Rattle.link_model.specs.declared.keys.LinkKey.{LinkKey}
use Rattle.link_model.specs.Keys.{same_key}
use Rattle.link_model.specs.Outside.{keys_of}
use Rattle.link_model.specs.Linking.{link_meaning}

-- an element of that kind with its owner and a name
abbrev pub thing : Kind → ℕ → List ℕ → Element
thing k owner x = record root_element { kind = k; owner = Some owner; name = Some x }

-- an element of that kind without a name
abbrev pub nameless : Kind → ℕ → Element
nameless k owner = record root_element { kind = k; owner = Some owner }

-- the member by which an owner owns an element, with its visibility
abbrev pub owned_as : Visibility → ℕ → ℕ → Option (List ℕ) → Member
owned_as v owner e x = record { owner = owner; target = Owned e; short = None; name = x; visibility = v }

-- a public member
abbrev pub owned : ℕ → ℕ → List ℕ → Member
owned owner e x = owned_as Public owner e (Some x)

-- a reference with its context and its path
abbrev pub refers : Role → ℕ → List (List ℕ) → Reference
refers r context path = record { role = r; context = context; absolute = false; path = path; chain = [] }

-- a public alias by the reference of that number
abbrev pub alias : ℕ → ℕ → List ℕ → Member
alias owner r x = record { owner = owner; target = Alias r; short = None; name = Some x; visibility = Public }

-- an import by the reference of that number, of all or of one
abbrev pub brings : Visibility → ℕ → ℕ → Bool → Import
brings v owner r star = record {
  owner = owner;
  reference = r;
  star = star;
  recursive = false;
  all = false;
  visibility = v;
}

-- the model at that file number, without places
abbrev pub data_of : ℕ → List Element → List Member → List Reference → List Import → Data
data_of number es ms rs is = record {
  file = record { 0 = number };
  language = Sysml;
  elements = es;
  items = [];
  members = ms;
  references = rs;
  imports = is;
  member_places = [];
  reference_places = [];
  value_places = [];
  result_places = [];
}

-- a file of the project with its model; the model bears the number at which the file stands
abbrev pub file_of : List ℕ → Data → StoredFile
file_of x d = record { name = x; library = false; model = Some d }

-- a file of the project without a text
abbrev pub gone_file : List ℕ → StoredFile
gone_file x = record { name = x; library = false; model = None }

-- the same file as one of the library
abbrev pub library_file : StoredFile → StoredFile
library_file s = record s { library = true }

-- the number of a file
abbrev pub file : ℕ → FileNo
file f = record { 0 = f }

-- an element of a file
abbrev pub element : ℕ → ℕ → ElementNo
element f e = record { file = record { 0 = f }; index = e }

-- a reference of a file, as a key
abbrev pub reference : ℕ → ℕ → LinkKey
reference f k = record { 0 = record { file = record { 0 = f }; index = k } }

-- a member of a file
abbrev pub by_member : ℕ → ℕ → MemberNo
by_member f m = record { file = record { 0 = f }; index = m }

-- linked to that element
abbrev pub to : ℕ → ℕ → Outcome
to f e = Linked [] (record { file = record { 0 = f }; index = e })

-- the least linking: what each reference has, in the order of their numbers
abbrev pub links_of : List StoredFile → List (Option Outcome)
links_of files = map (least same_key (link_meaning files)) (keys_of files)
