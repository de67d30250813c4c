-- A text as it is printed.
use Rattle.std.specs.Prelude.{ℕ, List, [], ◌∷◌, ◌++◌, codes}

-- lines with a line feed between them
abbrev pub lines : List (List ℕ) → List ℕ
lines [] = []
lines (x ∷ []) = x
lines (x ∷ y ∷ ys) = x ++ 10 ∷ lines (y ∷ ys)

-- a package of part definitions
unfoldable pub vehicles_text : List ℕ
vehicles_text =
    lines (
    codes "package Vehicles {"
    ∷ codes "    doc /* A small car model. */"
    ∷ codes "    private import ScalarValues::*;"
    ∷ codes "    part def Engine {"
    ∷ codes "        attribute power : Integer = 90;"
    ∷ codes "    }"
    ∷ codes "    part def Vehicle {"
    ∷ codes "        attribute mass : Integer default = 1000;"
    ∷ codes "        part engine : Engine [1];"
    ∷ codes "        attribute total : Integer = mass + engine.power;"
    ∷ codes "    }"
    ∷ codes "    part def Car :> Vehicle {"
    ∷ codes "        attribute :>> mass = 1200;"
    ∷ codes "        part wheels [4] : Wheel;"
    ∷ codes "    }"
    ∷ codes "    part def Wheel;"
    ∷ codes "}"
    ∷ [])
