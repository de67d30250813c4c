-- The book with one file more.
use Rattle.std.proofs.Common.{◌≡◌, ◌<◌, length, map, arith, rules, refl, sym, ◌∙◌, ap}
use Rattle.std.specs.Prelude.{None, not}
use Rattle.linker_base.specs.Members.{IsMember}
use Rattle.element_store.specs.declared.models.StoredFile.{StoredFile}
use Rattle.element_store.specs.Stored.{rank_of}
use Rattle.element_store.proofs.RankLaws.{rank_within, count_fits, book_more, count_is}
use Rattle.element_store.proofs.models.Models.add.Goals as goal

pub insert-requires : goal.insert-requires
insert-requires c =
    let file : StoredFile = record { name = c.args.name; library = c.args.library; model = None } in
    let rank : c.rank_of-rank.result ≡ rank_of c.self.inside.files.items file = c.rank_of-rank.ensures ∙ count_is _ file ∙ ap (λ files. rank_of files file) c.deref.ensures.value in
    let le = rank_within c.self.inside.files.items c.self.inside.ranks.items c.self.inside.project_files file c.self.invariant in
    search rules

pub overflow_add-self : goal.overflow_add-self
overflow_add-self c =
    let room : length c.self.inside.files.items < 4294967295 = rw c.self.view_is c.requires.room in
    let fits = count_fits c.self.inside.files.items c.self.inside.ranks.items c.self.inside.project_files (not c.args.library) room c.self.invariant in
    rw c.from.ensures (omega arith)

pub invariant_of-self-2 : goal.invariant_of-self-2
invariant_of-self-2 c =
    let file : StoredFile = record { name = c.args.name; library = c.args.library; model = None } in
    let room : length c.self.inside.files.items < 4294967295 = rw c.self.view_is c.requires.room in
    let fresh : IsMember (map (λ x. x.name) c.self.inside.files.items) file.name → ⊥ = rw c.self.view_is c.requires.fresh in
    let rank : c.rank_of-rank.result ≡ rank_of c.self.inside.files.items file = c.rank_of-rank.ensures ∙ count_is _ file ∙ ap (λ files. rank_of files file) c.deref.ensures.value in
    let number : c.len-number.result ≡ length c.self.inside.files.items = c.len-number.ensures ∙ sym c.deref.ensures.len ∙ ap length c.deref.ensures.value in
    rw (c.in_ok-push.ensures.items, c.in_ok-insert.ensures.items, c.in_ok-reserve.ensures.items, rank, number, c.from.ensures)
    (book_more c.self.inside.files.items c.self.inside.ranks.items c.self.inside.project_files file fresh room refl c.self.invariant)
