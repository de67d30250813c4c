use Rattle.std.proofs.Common.{◌≡◌, ◌∙◌, ap, [], ◌++◌}
use Rattle.link_model.specs.Names.{member_element}
use Rattle.link_walk.specs.Calls.{read_by}
use Rattle.link_walk.specs.Marks.{marked_all, same_fact}
use Rattle.link_walk.specs.Noted.{Noted, noted}
use Rattle.link_walk.proofs.MarkLaws.{marks_same, fact_is_exact}
use Rattle.owned_names.proofs.member.lead_told.Goals as goal

pub returns-clause-looks : goal.returns-clause-looks
returns-clause-looks c =
    let seen = (member_element c.args.member (read_by c.args.view.now)).looks in
    let noted_so : c.lead.new.notes ≡ noted [] seen (record { waits = []; looks = [] }) = c.in_ok-read.ensures.looks ∙ ap (noted [] seen) c.requires.empty in
    record {
      added = marked_all same_fact [] seen;
      whole = c.in_ok-tell.ensures ∙ ap (λ (n : Noted). c.args.looks.now ++ n.looks) noted_so;
      same = marks_same same_fact fact_is_exact seen;
    }
