-- Made by `tools/make_print_rules.py`: the numbers of the inner symbols.
use Rattle.std.specs.Prelude.{ℕ}
use Rattle.element_store.specs.declared.outcome.Language.{Language}
use Rattle.element_store.specs.declared.outcome.Language.TheVariants.{Kerml, Sysml}
use Rattle.print_model.proofs.Rules.{root, segments, steps}

abbrev pub file : Language → ℕ
file l = 0

abbrev pub member : Language → ℕ
member l = 1

abbrev pub vis : Language → ℕ
vis l = 2

abbrev pub import : Language → ℕ
import l = 3

abbrev pub imp_rest : Language → ℕ
imp_rest l = 4

abbrev pub imp_next : Language → ℕ
imp_next l = 5

abbrev pub alias : Language → ℕ
alias l = 6

abbrev pub ident : Language → ℕ
ident l = 7

abbrev pub note : Language → ℕ
note l = 8

abbrev pub locale : Language → ℕ
locale l = 9

abbrev pub pack : Language → ℕ
pack l = 10

abbrev pub body : Language → ℕ
body l = 11

abbrev pub qname : Language → ℕ
qname l = 12

abbrev pub chain : Language → ℕ
chain l = 13

abbrev pub dir : Language → ℕ
dir l = 14

abbrev pub sub : Language → ℕ
sub l = 15

abbrev pub spec_part : Language → ℕ
spec_part l = 16

abbrev pub spec : Language → ℕ
spec l = 17

abbrev pub mult : Language → ℕ
mult l = 18

abbrev pub order : Language → ℕ
order l = 19

abbrev pub bounds : Language → ℕ
bounds l = 20

abbrev pub bound : Language → ℕ
bound l = 21

abbrev pub value : Language → ℕ
value l = 22

abbrev pub use_head : Language → ℕ
use_head l = 23

abbrev pub use_tail : Language → ℕ
use_tail l = 24

abbrev pub plain : Language → ℕ
plain l = 25

abbrev pub no_name : Language → ℕ
no_name l = 26

abbrev pub ref_tail : Language → ℕ
ref_tail l = 27

abbrev pub expr : Language → ℕ
expr l = 28

abbrev pub imp : Language → ℕ
imp l = 29

abbrev pub or : Language → ℕ
or l = 30

abbrev pub xor : Language → ℕ
xor l = 31

abbrev pub and : Language → ℕ
and l = 32

abbrev pub eq : Language → ℕ
eq l = 33

abbrev pub rel : Language → ℕ
rel l = 34

abbrev pub sum : Language → ℕ
sum l = 35

abbrev pub term : Language → ℕ
term l = 36

abbrev pub unary : Language → ℕ
unary l = 37

abbrev pub prim : Language → ℕ
prim l = 38

abbrev pub typed_by : Language → ℕ
typed_by l = 39

abbrev pub content : Language → ℕ
content l = 40

abbrev pub thing : Language → ℕ
thing l = 41

abbrev pub many_member : Language → ℕ
many_member Kerml = 53
many_member Sysml = 68

abbrev pub maybe_vis : Language → ℕ
maybe_vis Kerml = 54
maybe_vis Sysml = 69

abbrev pub maybe_all : Language → ℕ
maybe_all Kerml = 55
maybe_all Sysml = 70

abbrev pub maybe_dollar_colon_colon : Language → ℕ
maybe_dollar_colon_colon l = root l

abbrev pub maybe_colon_colon_imp_next : Language → ℕ
maybe_colon_colon_imp_next Kerml = 57
maybe_colon_colon_imp_next Sysml = 72

abbrev pub maybe_colon_colon_star_star : Language → ℕ
maybe_colon_colon_star_star Kerml = 58
maybe_colon_colon_star_star Sysml = 73

abbrev pub maybe_less_name_greater : Language → ℕ
maybe_less_name_greater Kerml = 59
maybe_less_name_greater Sysml = 74

abbrev pub maybe_name : Language → ℕ
maybe_name Kerml = 60
maybe_name Sysml = 75

abbrev pub maybe_about_qname_comma : Language → ℕ
maybe_about_qname_comma Kerml = 61
maybe_about_qname_comma Sysml = 76

abbrev pub many_comma_qname : Language → ℕ
many_comma_qname Kerml = 62
many_comma_qname Sysml = 77

abbrev pub maybe_locale_string : Language → ℕ
maybe_locale_string Kerml = 63
maybe_locale_string Sysml = 78

abbrev pub maybe_standard : Language → ℕ
maybe_standard Kerml = 64
maybe_standard Sysml = 79

abbrev pub many_colon_colon_name : Language → ℕ
many_colon_colon_name l = segments l

abbrev pub many_dot_name : Language → ℕ
many_dot_name l = steps l

abbrev pub maybe_colon_greater_qname_comma : Language → ℕ
maybe_colon_greater_qname_comma Kerml = 67
maybe_colon_greater_qname_comma Sysml = 82

abbrev pub one_colon_greater_specializes : Language → ℕ
one_colon_greater_specializes Kerml = 68
one_colon_greater_specializes Sysml = 83

abbrev pub many_spec : Language → ℕ
many_spec Kerml = 69
many_spec Sysml = 84

abbrev pub maybe_mult_spec : Language → ℕ
maybe_mult_spec Kerml = 70
maybe_mult_spec Sysml = 85

abbrev pub one_colon_greater_subsets : Language → ℕ
one_colon_greater_subsets Kerml = 71
one_colon_greater_subsets Sysml = 86

abbrev pub many_comma_chain : Language → ℕ
many_comma_chain Kerml = 72
many_comma_chain Sysml = 87

abbrev pub one_colon_greater_greater_redefines : Language → ℕ
one_colon_greater_greater_redefines Kerml = 73
one_colon_greater_greater_redefines Sysml = 88

abbrev pub one_colon_colon_greater_references : Language → ℕ
one_colon_colon_greater_references Kerml = 74
one_colon_colon_greater_references Sysml = 89

abbrev pub maybe_order : Language → ℕ
maybe_order Kerml = 75
maybe_order Sysml = 90

abbrev pub maybe_nonunique : Language → ℕ
maybe_nonunique Kerml = 76
maybe_nonunique Sysml = 91

abbrev pub maybe_ordered : Language → ℕ
maybe_ordered Kerml = 77
maybe_ordered Sysml = 92

abbrev pub maybe_dot_dot_star : Language → ℕ
maybe_dot_dot_star Kerml = 78
maybe_dot_dot_star Sysml = 93

abbrev pub one_star_bound : Language → ℕ
one_star_bound Kerml = 79
one_star_bound Sysml = 94

abbrev pub maybe_equals_expr_default : Language → ℕ
maybe_equals_expr_default Kerml = 80
maybe_equals_expr_default Sysml = 95

abbrev pub one_equals_expr_default : Language → ℕ
one_equals_expr_default Kerml = 81
one_equals_expr_default Sysml = 96

abbrev pub maybe_equals : Language → ℕ
maybe_equals Kerml = 82
maybe_equals Sysml = 97

abbrev pub many_implies_or : Language → ℕ
many_implies_or Kerml = 83
many_implies_or Sysml = 98

abbrev pub many_or_xor : Language → ℕ
many_or_xor Kerml = 84
many_or_xor Sysml = 99

abbrev pub one_or_bar : Language → ℕ
one_or_bar Kerml = 85
one_or_bar Sysml = 100

abbrev pub many_xor_and : Language → ℕ
many_xor_and Kerml = 86
many_xor_and Sysml = 101

abbrev pub many_and_eq : Language → ℕ
many_and_eq Kerml = 87
many_and_eq Sysml = 102

abbrev pub one_and_and : Language → ℕ
one_and_and Kerml = 88
one_and_and Sysml = 103

abbrev pub many_equals_equals_rel : Language → ℕ
many_equals_equals_rel Kerml = 89
many_equals_equals_rel Sysml = 104

abbrev pub one_equals_equals_not_equals : Language → ℕ
one_equals_equals_not_equals Kerml = 90
one_equals_equals_not_equals Sysml = 105

abbrev pub many_less_sum : Language → ℕ
many_less_sum Kerml = 91
many_less_sum Sysml = 106

abbrev pub one_less_greater_less_equals : Language → ℕ
one_less_greater_less_equals Kerml = 92
one_less_greater_less_equals Sysml = 107

abbrev pub many_plus_term : Language → ℕ
many_plus_term Kerml = 93
many_plus_term Sysml = 108

abbrev pub one_plus_minus : Language → ℕ
one_plus_minus Kerml = 94
one_plus_minus Sysml = 109

abbrev pub many_star_unary : Language → ℕ
many_star_unary Kerml = 95
many_star_unary Sysml = 110

abbrev pub one_star_slash_percent : Language → ℕ
one_star_slash_percent Kerml = 96
one_star_slash_percent Sysml = 111

abbrev pub one_minus_plus_not : Language → ℕ
one_minus_plus_not Kerml = 97
one_minus_plus_not Sysml = 112

abbrev pub maybe_derived : Language → ℕ
maybe_derived Kerml = 98
maybe_derived Sysml = 114

abbrev pub maybe_abstract : Language → ℕ
maybe_abstract Kerml = 99
maybe_abstract Sysml = 115

abbrev pub maybe_expr : Language → ℕ
maybe_expr Kerml = 104
maybe_expr Sysml = 129

abbrev pub one_import_alias_note : Language → ℕ
one_import_alias_note Kerml = 105
one_import_alias_note Sysml = 130

abbrev pub k1 : ℕ
k1 = 42

abbrev pub k2 : ℕ
k2 = 43

abbrev pub k3 : ℕ
k3 = 44

abbrev pub k4 : ℕ
k4 = 45

abbrev pub k5 : ℕ
k5 = 46

abbrev pub klate : ℕ
klate = 47

abbrev pub type_decl : ℕ
type_decl = 48

abbrev pub type_word : ℕ
type_word = 49

abbrev pub feat : ℕ
feat = 50

abbrev pub fun_body : ℕ
fun_body = 51

abbrev pub fun_item : ℕ
fun_item = 52

abbrev pub maybe_composite : ℕ
maybe_composite = 100

abbrev pub maybe_const : ℕ
maybe_const = 101

abbrev pub maybe_end : ℕ
maybe_end = 102

abbrev pub many_fun_item : ℕ
many_fun_item = 103

abbrev pub p1 : ℕ
p1 = 42

abbrev pub p2 : ℕ
p2 = 43

abbrev pub p3 : ℕ
p3 = 44

abbrev pub p4 : ℕ
p4 = 45

abbrev pub p5 : ℕ
p5 = 46

abbrev pub late : ℕ
late = 47

abbrev pub simple : ℕ
simple = 48

abbrev pub usage : ℕ
usage = 49

abbrev pub def_use : ℕ
def_use = 50

abbrev pub def_head : ℕ
def_head = 51

abbrev pub con_tail : ℕ
con_tail = 52

abbrev pub calc_tail : ℕ
calc_tail = 53

abbrev pub req_tail : ℕ
req_tail = 54

abbrev pub enum_body : ℕ
enum_body = 55

abbrev pub enum_item : ℕ
enum_item = 56

abbrev pub calc_body : ℕ
calc_body = 57

abbrev pub calc_item : ℕ
calc_item = 58

abbrev pub req_body : ℕ
req_body = 59

abbrev pub req_item : ℕ
req_item = 60

abbrev pub req_con : ℕ
req_con = 61

abbrev pub connect : ℕ
connect = 62

abbrev pub ends : ℕ
ends = 63

abbrev pub bind : ℕ
bind = 64

abbrev pub end : ℕ
end = 65

abbrev pub end_name : ℕ
end_name = 66

abbrev pub end_rest : ℕ
end_rest = 67

abbrev pub maybe_dir : ℕ
maybe_dir = 113

abbrev pub maybe_constant : ℕ
maybe_constant = 116

abbrev pub maybe_ref : ℕ
maybe_ref = 117

abbrev pub one_connection_interface : ℕ
one_connection_interface = 118

abbrev pub one_calc_constraint : ℕ
one_calc_constraint = 119

abbrev pub one_def_def_head_body : ℕ
one_def_def_head_body = 120

abbrev pub one_def_def_head_enum_body : ℕ
one_def_def_head_enum_body = 121

abbrev pub one_def_def_head_body2 : ℕ
one_def_def_head_body2 = 122

abbrev pub one_def_def_head_calc_body : ℕ
one_def_def_head_calc_body = 123

abbrev pub one_def_def_head_req_body : ℕ
one_def_def_head_req_body = 124

abbrev pub maybe_connect_ends : ℕ
maybe_connect_ends = 125

abbrev pub many_enum_item : ℕ
many_enum_item = 126

abbrev pub one_note_enum_use_tail : ℕ
one_note_enum_use_tail = 127

abbrev pub many_calc_item : ℕ
many_calc_item = 128

abbrev pub many_req_item : ℕ
many_req_item = 131

abbrev pub one_content_subject_use_tail : ℕ
one_content_subject_use_tail = 132

abbrev pub one_assume_require : ℕ
one_assume_require = 133

abbrev pub many_comma_end : ℕ
many_comma_end = 134

abbrev pub maybe_bracket_bounds_bracket : ℕ
maybe_bracket_bounds_bracket = 135
