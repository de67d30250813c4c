-- A stream as it is told, and what is said of an ending.
use Rattle.std.proofs.Common.{◌≡◌, ℕ, List, subst, sym}
use Rattle.std.specs.Prelude.{Option}
use Rattle.session_streams.specs.Moves.{Stream, Move}
use Rattle.session_streams.specs.Running.{line_of, status_of, Said}
use Rattle.session_streams.specs.declared.status.Status.{Status}
use Rattle.sysml_session.specs.Turns.{fault_ending}
use Rattle.sysml_session.specs.declared.fault.ServeFault.{ServeFault}

-- the stream that a value tells
abbrev pub seen : {T : Type 0} → (T → Option (List ℕ)) → (T → ℕ) → T → Stream
seen told faults x = record { told = told x; faults = faults x }

-- what was said of a fault that is this one
pub said_as : (errors : Move) (fault this : ServeFault) (status : Status) → fault ≡ this → Said errors (line_of (fault_ending this))
    (status_of (fault_ending this)) status
    → Said errors (line_of (fault_ending fault)) (status_of (fault_ending fault)) status
said_as errors fault this status is s = subst (λ (f : ServeFault). Said errors (line_of (fault_ending f)) (status_of (fault_ending f)) status) (sym is) s
