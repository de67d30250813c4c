-- The names of files, and the NAME of a script.
use Rattle.std.specs.Prelude.{◌≡◌, ℕ, Bool, true, false, ◌&&◌, ◌||◌, not, nat_eq, nat_le, List, [], ◌∷◌, length, codes, refl}
use Rattle.std.specs.List.{list_all, ends_with}

-- bytes by their names
abbrev pub digit_0 : ℕ
digit_0 = 48

abbrev pub digit_9 : ℕ
digit_9 = 57

abbrev pub letter_A : ℕ
letter_A = 65

abbrev pub letter_Z : ℕ
letter_Z = 90

abbrev pub small_a : ℕ
small_a = 97

abbrev pub small_z : ℕ
small_z = 122

abbrev pub underscore : ℕ
underscore = 95

abbrev pub minus : ℕ
minus = 45

abbrev pub dot : ℕ
dot = 46

abbrev pub slash : ℕ
slash = 47

-- the byte stands from the first up to the last
abbrev pub is_between : ℕ → ℕ → ℕ → Bool
is_between first last b = nat_le first b && nat_le b last

-- a decimal digit, or an ASCII letter
abbrev pub is_alphanumeric : ℕ → Bool
is_alphanumeric b = is_between digit_0 digit_9 b || is_between letter_A letter_Z b || is_between small_a small_z b

-- a letter, a digit, or one of `_`, `-`, `.` and `/`
abbrev pub is_name_byte : ℕ → Bool
is_name_byte b = is_alphanumeric b || nat_eq b underscore || nat_eq b minus || nat_eq b dot || nat_eq b slash

-- there is a first byte, and it isn't `-`
abbrev pub is_first_byte : List ℕ → Bool
is_first_byte [] = false
is_first_byte (b ∷ bs) = not (nat_eq b minus)

-- 7 to 200 bytes
abbrev pub has_name_length : List ℕ → Bool
has_name_length bs = nat_le 7 (length bs) && nat_le (length bs) 200

-- how the names of the files of each language end
abbrev pub ends_sysml : List ℕ → Bool
ends_sysml bs = ends_with nat_eq bs (codes ".sysml")

abbrev pub ends_kerml : List ℕ → Bool
ends_kerml bs = ends_with nat_eq bs (codes ".kerml")

-- the bytes are the name of a file, of either language
abbrev pub is_file_name : List ℕ → Bool
is_file_name bs =
    has_name_length bs && is_first_byte bs && list_all is_name_byte bs && (ends_sysml bs || ends_kerml bs)

-- the bytes are a NAME of a script: the name of a SysML file
abbrev pub is_sysml_name : List ℕ → Bool
is_sysml_name bs = has_name_length bs && is_first_byte bs && list_all is_name_byte bs && ends_sysml bs

-- shown: the shortest names, of which one is no NAME of a script, and what is the name of no file
pub shortest_name : is_file_name (codes "a.sysml") ≡ true
shortest_name = refl

pub shortest_kerml_name : is_file_name (codes "a.kerml") ≡ true
shortest_kerml_name = refl

pub script_names_sysml : is_sysml_name (codes "a.sysml") ≡ true
script_names_sysml = refl

pub script_names_no_kerml : is_sysml_name (codes "a.kerml") ≡ false
script_names_no_kerml = refl

pub short_of_a_byte : is_file_name (codes ".sysml") ≡ false
short_of_a_byte = refl

pub kerml_short_of_a_byte : is_file_name (codes ".kerml") ≡ false
kerml_short_of_a_byte = refl

pub past_its_ending : is_file_name (codes "a.kermll") ≡ false
past_its_ending = refl

pub with_a_space : is_file_name (codes "a b.sysml") ≡ false
with_a_space = refl

pub begins_with_minus : is_file_name (codes "-a.sysml") ≡ false
begins_with_minus = refl
