-- Files without models have no members.
use Rattle.std.proofs.Common.{sym, ◌∙◌, ap, not}
use Rattle.root_names.specs.Roots.{bearing}
use Rattle.root_names.proofs.FileLaws.{nothing_in}
use Rattle.root_names.proofs.root_names.RootNames.new.Goals as goal

pub returns : goal.returns
returns c files none = record {
  project = λ x. ap (λ t. bearing t x) c.new.ensures ∙ sym (nothing_in files none x (λ u. not u.file.library));
  library = λ x. ap (λ t. bearing t x) c.new-2.ensures ∙ sym (nothing_in files none x (λ u. u.file.library));
}
