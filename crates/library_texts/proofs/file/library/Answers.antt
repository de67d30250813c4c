use Rattle.std.proofs.Common.{refl}
use Rattle.library_texts.specs.Texts as texts
use Rattle.library_texts.proofs.file.library.Goals as goal

pub returns : goal.returns
unfolding texts.library texts.actions texts.base texts.calculations texts.connections texts.constraints texts.interfaces texts.items texts.links texts.objects
    texts.occurrences texts.parts texts.performances texts.ports texts.requirements texts.scalar_values
returns c = refl
