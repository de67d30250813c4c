use Rattle.std.proofs.Common.{◌≡◌, ◌++◌, ◌∷◌, [], ◌∙◌, ap, subst}
use Rattle.std.specs.Prelude.{OnOk}
use Rattle.linked_project.proofs.ListedLaws.{named_one}
use Rattle.linked_project.proofs.file_names.push_name.Goals as goal

pub returns-in_ok-name_of-in-Some : goal.returns-in_ok-name_of-in-Some
returns-in_ok-name_of-in-Some c =
    subst (λ ns. OnOk c.push.result (c.push.new.self ≡ c.args.names.now ++ ns))
    (ap (λ n. n ∷ []) c.in_ok-name_of-in-Some.ensures
    ∙ named_one c.args.files.now c.args.file c.in-Some.field-0 c.requires.own c.in-Some.ensures) c.push.ensures.ok
