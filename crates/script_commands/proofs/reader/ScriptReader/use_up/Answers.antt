use Rattle.std.proofs.Common.{◌≡◌, ◌+◌, ◌-◌, ap, subst, arith, length, drop}
use Rattle.std.proofs.lemmas.List.{length-take}
use Rattle.script_commands.specs.Pieces.{pending_of}
use Rattle.script_commands.specs.Reading.{Window}
use Rattle.script_commands.proofs.Windows.{piece_less}
use Rattle.script_commands.proofs.reader.ScriptReader.use_up.Goals as goal

pub returns-clause-after : goal.returns-clause-after
returns-clause-after c =
    let p = c.self.inside.piece in
    let used = c.self.inside.used + c.args.size in
    let less = pending_of (record p { at = p.at + c.args.size }) in
    subst (λ (v : Window). record { used = used; pending = less } ≡ record { used = v.used + c.args.size; pending = drop c.args.size v.pending })
    c.self.view_is
    (ap (λ bs. record { used = used; pending = bs }) (piece_less p.bytes.items p.at p.end c.args.size
    (omega (arith, c.requires, ap (λ (v : Window). length v.pending) c.self.view_is, length-take (p.end - p.at) (drop p.at p.bytes.items)))))
