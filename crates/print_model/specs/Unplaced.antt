-- What stays of a walk where all places are 0.
use Rattle.std.specs.Prelude.{ℕ, false, Option, Some, None, List, [], map}
use Rattle.std.specs.Option.{option_map}
use Rattle.token_core.specs.declared.token.Token.{Token}
use Rattle.token_core.specs.Reading.{bytes_of}
use Rattle.text_model.specs.declared.draft.Path.{Path}
use Rattle.text_model.specs.declared.draft.Mention.{Mention}
use Rattle.text_model.specs.declared.draft.What.{What}
use Rattle.text_model.specs.declared.draft.What.TheVariants as what
use Rattle.text_model.specs.declared.draft.DraftNode.{DraftNode}
use Rattle.text_model.specs.declared.draft.DraftExpr.{DraftExpr}
use Rattle.text_model.specs.declared.draft.Draft.{Draft}
use Rattle.text_model.specs.declared.draft.DraftMember.{DraftMember}
use Rattle.text_model.specs.declared.draft.DraftImport.{DraftImport}
use Rattle.text_model.specs.declared.draft.Waiting.{Waiting}
use Rattle.text_model.specs.declared.draft.Seen.{Seen}
use Rattle.text_model.specs.declared.draft.Reading.{Reading}
use Rattle.text_model.specs.Walk.{Walk, Frame}
use Rattle.print_model.specs.Printed.{Printed}

-- a place, if any, becomes 0
abbrev pub nowhere : Option ℕ → Option ℕ
nowhere None = None
nowhere (Some n) = Some 0

-- a name at no place
abbrev pub bare_path : Path → Path
bare_path p = record p { place = 0 }

-- what a node is, at no place
abbrev pub bare_what : What → What
bare_what (what.Named p) = what.Named (bare_path p)
bare_what other = other

-- a node at no place
abbrev pub bare_node : DraftNode → DraftNode
bare_node n = record { what = bare_what n.what; place = 0 }

-- a mention at no place
abbrev pub bare_mention : Mention → Mention
bare_mention m = record m { path = bare_path m.path }

-- an expression at no place
abbrev pub bare_expression : DraftExpr → DraftExpr
bare_expression e = record { start = 0; nodes = map bare_node e.nodes }

-- a draft whose names and nodes have no places
abbrev pub bare_draft : Draft → Draft
bare_draft d = record d {
  own = map bare_path d.own;
  specs = map bare_mention d.specs;
  bounds = map bare_node d.bounds;
  value = option_map bare_expression d.value;
  result = option_map bare_expression d.result;
  inner = map bare_mention d.inner;
}

-- a member at no place
abbrev pub bare_member : DraftMember → DraftMember
bare_member m = record m { place = 0 }

-- an import at no place
abbrev pub bare_import : DraftImport → DraftImport
bare_import i = record i { place = 0 }

-- an operator that waits, at no place
abbrev pub bare_waiting : Waiting → Waiting
bare_waiting w = record w { place = 0 }

-- a visibility word at no place
abbrev pub bare_seen : Seen → Seen
bare_seen s = record s { place = 0 }

-- what was read, at no place
abbrev pub bare_reading : Reading → Reading
bare_reading r = record r {
  nodes = map bare_node r.nodes;
  operator = option_map bare_waiting r.operator;
  start =
      nowhere r.start;
  root = nowhere r.root;
}

-- a walk without places, and without the tokens to come
abbrev pub bare : Walk → Walk
bare w = record {
  elements = map bare_draft w.elements;
  members = map bare_member w.members;
  imports = map bare_import w.imports;
  current = w.current;
  waiting = option_map bare_seen w.waiting;
  reading = bare_reading w.reading;
  large = map (λ n. 0) w.large;
  rest = [];
}

-- what a production keeps, without places
abbrev pub bare_frame : Frame → Frame
bare_frame f = record { current = f.current; reading = bare_reading f.reading; place = 0; visibility = f.visibility }

-- a token of a text as it would be printed
abbrev pub seen : List ℕ → Token → Printed
seen text t = record { kind = t.kind; bytes = bytes_of text t; tight = false }
