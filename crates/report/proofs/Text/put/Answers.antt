-- `report::Text::put` meets its contract: the part behind the text is the word.
use mathlib.Core.Path.{refl}
use Rattle.report.proofs.Texts.{puts_word}
use Rattle.report.proofs.Text.put.Goals as goal

pub returns : goal.returns
returns c =
    let t = c.args.self.now in
    record { same_buffer = refl; puts = puts_word t.bytes.now t.len c.args.word.now _ c.copy_from_slice.ensures.after c.requires }
