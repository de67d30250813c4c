use Rattle.std.proofs.Common.{◌∙◌, ◌++◌, ap}
use Rattle.link_model.specs.Outside.{keys_in}
use Rattle.kept_links.proofs.KeptLaws.{opened_kept}
use Rattle.kept_links.proofs.kept.KeptLinks.open.Goals as goal

pub returns : goal.returns
returns c =
    opened_kept c.args.models.now c.args.file c.files.ensures.kept c.args.self.now c.let_go.new.self
    (record { engine = c.self.inside.engine; pending = c.push_file.new.keys.items }) c.requires.may c.deref.result.now
    (c.deref.ensures.value ∙ c.in_ok-facts.ensures) c.in_ok-let_go.ensures (ap (λ l. l.engine) c.self.view_is)
    (λ s at. c.in_ok-push_file.ensures s at
    ∙ ap (λ l. l.pending ++ keys_in (record { number = c.args.file; file = s })) c.self.view_is)
