use Rattle.std.proofs.Common.{refl}
use Rattle.project_book.proofs.LibraryLaws.{added_next, library_fresh, library_member, library_opened, library_room, opened_sized}
use Rattle.project_book.proofs.project.Project.open.Goals as goal

pub add_library-requires-clause-apart : goal.add_library-requires-clause-apart
add_library-requires-clause-apart c =
    c.requires.apart _ (library_member c.args.library.now c.loop-file.file-index _ c.loop-file-test.true)

pub add_library-requires-clause-fresh : goal.add_library-requires-clause-fresh
add_library-requires-clause-fresh c =
    library_fresh c.loop-file.named c.args.library.now c.loop-file.file-index _ c.loop-file-test.true c.requires c.loop-file.invariant

pub add_library-requires-clause-short : goal.add_library-requires-clause-short
add_library-requires-clause-short c =
    c.requires.short _ (library_member c.args.library.now c.loop-file.file-index _ c.loop-file-test.true)

pub add_library-requires-clause-room : goal.add_library-requires-clause-room
add_library-requires-clause-room c =
    library_room c.loop-file.named c.args.library.now c.loop-file.file-index c.loop-file-test.true c.requires c.loop-file.invariant

pub loop-file-preserved : goal.loop-file-preserved
loop-file-preserved c =
    added_next c.loop-file.named c.add_library.new.self c.args.library.now c.loop-file.file-index _ c.loop-file-test.true c.loop-file.invariant
    c.in_ok-add_library.ensures.added c.in_ok-add_library.ensures.alone
