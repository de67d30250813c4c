-- Made by `tools/make_table.py`: change tools/grammars, not this file.
use Rattle.std.specs.Prelude.{ℕ, List, [], ◌∷◌}
use Rattle.ll_core.specs.declared.grammar.Symbol.TheVariants.{Terminal, Inner}
use Rattle.ll_core.specs.Table.{Rule}
use Rattle.kerml_grammar.specs.Terms.{rule, word, sign}

-- the inner symbols

abbrev pub File : ℕ
File = 0

abbrev pub Member : ℕ
Member = 1

abbrev pub Vis : ℕ
Vis = 2

abbrev pub Import : ℕ
Import = 3

abbrev pub ImpRest : ℕ
ImpRest = 4

abbrev pub ImpNext : ℕ
ImpNext = 5

abbrev pub Alias : ℕ
Alias = 6

abbrev pub Ident : ℕ
Ident = 7

abbrev pub Note : ℕ
Note = 8

abbrev pub Locale : ℕ
Locale = 9

abbrev pub Pack : ℕ
Pack = 10

abbrev pub Body : ℕ
Body = 11

abbrev pub QName : ℕ
QName = 12

abbrev pub Chain : ℕ
Chain = 13

abbrev pub Dir : ℕ
Dir = 14

abbrev pub Sub : ℕ
Sub = 15

abbrev pub SpecPart : ℕ
SpecPart = 16

abbrev pub Spec : ℕ
Spec = 17

abbrev pub Mult : ℕ
Mult = 18

abbrev pub Order : ℕ
Order = 19

abbrev pub Bounds : ℕ
Bounds = 20

abbrev pub Bound : ℕ
Bound = 21

abbrev pub Value : ℕ
Value = 22

abbrev pub UseHead : ℕ
UseHead = 23

abbrev pub UseTail : ℕ
UseTail = 24

abbrev pub Plain : ℕ
Plain = 25

abbrev pub NoName : ℕ
NoName = 26

abbrev pub RefTail : ℕ
RefTail = 27

abbrev pub Expr : ℕ
Expr = 28

abbrev pub Imp : ℕ
Imp = 29

abbrev pub Or : ℕ
Or = 30

abbrev pub Xor : ℕ
Xor = 31

abbrev pub And : ℕ
And = 32

abbrev pub Eq : ℕ
Eq = 33

abbrev pub Rel : ℕ
Rel = 34

abbrev pub Sum : ℕ
Sum = 35

abbrev pub Term : ℕ
Term = 36

abbrev pub Unary : ℕ
Unary = 37

abbrev pub Prim : ℕ
Prim = 38

abbrev pub TypedBy : ℕ
TypedBy = 39

abbrev pub Content : ℕ
Content = 40

abbrev pub Thing : ℕ
Thing = 41

abbrev pub K1 : ℕ
K1 = 42

abbrev pub K2 : ℕ
K2 = 43

abbrev pub K3 : ℕ
K3 = 44

abbrev pub K4 : ℕ
K4 = 45

abbrev pub K5 : ℕ
K5 = 46

abbrev pub KLate : ℕ
KLate = 47

abbrev pub TypeDecl : ℕ
TypeDecl = 48

abbrev pub TypeWord : ℕ
TypeWord = 49

abbrev pub Feat : ℕ
Feat = 50

abbrev pub FunBody : ℕ
FunBody = 51

abbrev pub FunItem : ℕ
FunItem = 52

abbrev pub ManyMember : ℕ
ManyMember = 53

abbrev pub MaybeVis : ℕ
MaybeVis = 54

abbrev pub MaybeAll : ℕ
MaybeAll = 55

abbrev pub MaybeDollarColonColon : ℕ
MaybeDollarColonColon = 56

abbrev pub MaybeColonColonImpNext : ℕ
MaybeColonColonImpNext = 57

abbrev pub MaybeColonColonStarStar : ℕ
MaybeColonColonStarStar = 58

abbrev pub MaybeLessNameGreater : ℕ
MaybeLessNameGreater = 59

abbrev pub MaybeName : ℕ
MaybeName = 60

abbrev pub MaybeAboutQNameComma : ℕ
MaybeAboutQNameComma = 61

abbrev pub ManyCommaQName : ℕ
ManyCommaQName = 62

abbrev pub MaybeLocaleString : ℕ
MaybeLocaleString = 63

abbrev pub MaybeStandard : ℕ
MaybeStandard = 64

abbrev pub ManyColonColonName : ℕ
ManyColonColonName = 65

abbrev pub ManyDotName : ℕ
ManyDotName = 66

abbrev pub MaybeColonGreaterQNameComma : ℕ
MaybeColonGreaterQNameComma = 67

abbrev pub OneColonGreaterSpecializes : ℕ
OneColonGreaterSpecializes = 68

abbrev pub ManySpec : ℕ
ManySpec = 69

abbrev pub MaybeMultSpec : ℕ
MaybeMultSpec = 70

abbrev pub OneColonGreaterSubsets : ℕ
OneColonGreaterSubsets = 71

abbrev pub ManyCommaChain : ℕ
ManyCommaChain = 72

abbrev pub OneColonGreaterGreaterRedefines : ℕ
OneColonGreaterGreaterRedefines = 73

abbrev pub OneColonColonGreaterReferences : ℕ
OneColonColonGreaterReferences = 74

abbrev pub MaybeOrder : ℕ
MaybeOrder = 75

abbrev pub MaybeNonunique : ℕ
MaybeNonunique = 76

abbrev pub MaybeOrdered : ℕ
MaybeOrdered = 77

abbrev pub MaybeDotDotStar : ℕ
MaybeDotDotStar = 78

abbrev pub OneStarBound : ℕ
OneStarBound = 79

abbrev pub MaybeEqualsExprDefault : ℕ
MaybeEqualsExprDefault = 80

abbrev pub OneEqualsExprDefault : ℕ
OneEqualsExprDefault = 81

abbrev pub MaybeEquals : ℕ
MaybeEquals = 82

abbrev pub ManyImpliesOr : ℕ
ManyImpliesOr = 83

abbrev pub ManyOrXor : ℕ
ManyOrXor = 84

abbrev pub OneOrBar : ℕ
OneOrBar = 85

abbrev pub ManyXorAnd : ℕ
ManyXorAnd = 86

abbrev pub ManyAndEq : ℕ
ManyAndEq = 87

abbrev pub OneAndAnd : ℕ
OneAndAnd = 88

abbrev pub ManyEqualsEqualsRel : ℕ
ManyEqualsEqualsRel = 89

abbrev pub OneEqualsEqualsNotEquals : ℕ
OneEqualsEqualsNotEquals = 90

abbrev pub ManyLessSum : ℕ
ManyLessSum = 91

abbrev pub OneLessGreaterLessEquals : ℕ
OneLessGreaterLessEquals = 92

abbrev pub ManyPlusTerm : ℕ
ManyPlusTerm = 93

abbrev pub OnePlusMinus : ℕ
OnePlusMinus = 94

abbrev pub ManyStarUnary : ℕ
ManyStarUnary = 95

abbrev pub OneStarSlashPercent : ℕ
OneStarSlashPercent = 96

abbrev pub OneMinusPlusNot : ℕ
OneMinusPlusNot = 97

abbrev pub MaybeDerived : ℕ
MaybeDerived = 98

abbrev pub MaybeAbstract : ℕ
MaybeAbstract = 99

abbrev pub MaybeComposite : ℕ
MaybeComposite = 100

abbrev pub MaybeConst : ℕ
MaybeConst = 101

abbrev pub MaybeEnd : ℕ
MaybeEnd = 102

abbrev pub ManyFunItem : ℕ
ManyFunItem = 103

abbrev pub MaybeExpr : ℕ
MaybeExpr = 104

abbrev pub OneImportAliasNote : ℕ
OneImportAliasNote = 105

-- the productions; NAME, INT, STRING and COMMENT are the terminals 0 to 3
unfoldable pub kerml_rules : List Rule
kerml_rules =
    rule File (Inner ManyMember ∷ []) ∷
    rule Member (Inner MaybeVis ∷ Inner Content ∷ []) ∷
    rule Vis (word "public" ∷ []) ∷
    rule Vis (word "protected" ∷ []) ∷
    rule Vis (word "private" ∷ []) ∷
    rule Import (word "import" ∷ Inner MaybeAll ∷ Inner MaybeDollarColonColon ∷ Terminal 0 ∷ Inner ImpRest ∷ sign ";"
    ∷ []) ∷
    rule ImpRest (Inner MaybeColonColonImpNext ∷ []) ∷
    rule ImpNext (Terminal 0 ∷ Inner ImpRest ∷ []) ∷
    rule ImpNext (sign "*" ∷ Inner MaybeColonColonStarStar ∷ []) ∷
    rule ImpNext (sign "**" ∷ []) ∷
    rule Alias (word "alias" ∷ Inner Ident ∷ word "for" ∷ Inner QName ∷ sign ";" ∷ []) ∷
    rule Ident (Inner MaybeLessNameGreater ∷ Inner MaybeName ∷ []) ∷
    rule Note (word "doc" ∷ Inner Ident ∷ Inner Locale ∷ Terminal 3 ∷ []) ∷
    rule Note (word "comment" ∷ Inner Ident ∷ Inner MaybeAboutQNameComma ∷ Inner Locale ∷ Terminal 3 ∷ []) ∷
    rule Note (word "locale" ∷ Terminal 2 ∷ Terminal 3 ∷ []) ∷
    rule Note (Terminal 3 ∷ []) ∷
    rule Locale (Inner MaybeLocaleString ∷ []) ∷
    rule Pack (Inner MaybeStandard ∷ word "library" ∷ word "package" ∷ Inner Ident ∷ Inner Body ∷ []) ∷
    rule Pack (word "package" ∷ Inner Ident ∷ Inner Body ∷ []) ∷
    rule Body (sign ";" ∷ []) ∷
    rule Body (sign "{" ∷ Inner ManyMember ∷ sign "}" ∷ []) ∷
    rule QName (Inner MaybeDollarColonColon ∷ Terminal 0 ∷ Inner ManyColonColonName ∷ []) ∷
    rule Chain (Inner QName ∷ Inner ManyDotName ∷ []) ∷
    rule Dir (word "in" ∷ []) ∷
    rule Dir (word "out" ∷ []) ∷
    rule Dir (word "inout" ∷ []) ∷
    rule Sub (Inner MaybeColonGreaterQNameComma ∷ []) ∷
    rule SpecPart (Inner ManySpec ∷ Inner MaybeMultSpec ∷ []) ∷
    rule Spec (Inner TypedBy ∷ Inner QName ∷ Inner ManyCommaQName ∷ []) ∷
    rule Spec (Inner OneColonGreaterSubsets ∷ Inner Chain ∷ Inner ManyCommaChain ∷ []) ∷
    rule Spec (Inner OneColonGreaterGreaterRedefines ∷ Inner QName ∷ Inner ManyCommaQName ∷ []) ∷
    rule Spec (Inner OneColonColonGreaterReferences ∷ Inner Chain ∷ []) ∷
    rule Mult (sign "[" ∷ Inner Bounds ∷ sign "]" ∷ Inner MaybeOrder ∷ []) ∷
    rule Mult (Inner Order ∷ []) ∷
    rule Order (word "ordered" ∷ Inner MaybeNonunique ∷ []) ∷
    rule Order (word "nonunique" ∷ Inner MaybeOrdered ∷ []) ∷
    rule Bounds (sign "*" ∷ []) ∷
    rule Bounds (Inner Bound ∷ Inner MaybeDotDotStar ∷ []) ∷
    rule Bound (Terminal 1 ∷ []) ∷
    rule Bound (Inner QName ∷ []) ∷
    rule Value (Inner MaybeEqualsExprDefault ∷ []) ∷
    rule UseHead (Inner Ident ∷ Inner SpecPart ∷ []) ∷
    rule UseTail (Inner UseHead ∷ Inner Value ∷ Inner Body ∷ []) ∷
    rule Plain (Terminal 0 ∷ Inner RefTail ∷ []) ∷
    rule Plain (Inner NoName ∷ []) ∷
    rule NoName (sign "<" ∷ Terminal 0 ∷ sign ">" ∷ Inner MaybeName ∷ Inner RefTail ∷ []) ∷
    rule NoName (Inner Spec ∷ Inner RefTail ∷ []) ∷
    rule RefTail (Inner SpecPart ∷ Inner Value ∷ Inner Body ∷ []) ∷
    rule Expr (word "if" ∷ Inner Expr ∷ sign "?" ∷ Inner Expr ∷ word "else" ∷ Inner Expr ∷ []) ∷
    rule Expr (Inner Imp ∷ []) ∷
    rule Imp (Inner Or ∷ Inner ManyImpliesOr ∷ []) ∷
    rule Or (Inner Xor ∷ Inner ManyOrXor ∷ []) ∷
    rule Xor (Inner And ∷ Inner ManyXorAnd ∷ []) ∷
    rule And (Inner Eq ∷ Inner ManyAndEq ∷ []) ∷
    rule Eq (Inner Rel ∷ Inner ManyEqualsEqualsRel ∷ []) ∷
    rule Rel (Inner Sum ∷ Inner ManyLessSum ∷ []) ∷
    rule Sum (Inner Term ∷ Inner ManyPlusTerm ∷ []) ∷
    rule Term (Inner Unary ∷ Inner ManyStarUnary ∷ []) ∷
    rule Unary (Inner OneMinusPlusNot ∷ Inner Unary ∷ []) ∷
    rule Unary (Inner Prim ∷ []) ∷
    rule Prim (Terminal 1 ∷ []) ∷
    rule Prim (Terminal 2 ∷ []) ∷
    rule Prim (word "true" ∷ []) ∷
    rule Prim (word "false" ∷ []) ∷
    rule Prim (word "null" ∷ []) ∷
    rule Prim (Inner Chain ∷ []) ∷
    rule Prim (sign "(" ∷ Inner Expr ∷ sign ")" ∷ []) ∷
    rule TypedBy (sign ":" ∷ []) ∷
    rule TypedBy (word "typed" ∷ word "by" ∷ []) ∷
    rule Content (Inner Import ∷ []) ∷
    rule Content (Inner Alias ∷ []) ∷
    rule Content (Inner Note ∷ []) ∷
    rule Content (Inner Pack ∷ []) ∷
    rule Content (word "namespace" ∷ Inner Ident ∷ Inner Body ∷ []) ∷
    rule Content (Inner Thing ∷ []) ∷
    rule Thing (Inner Dir ∷ Inner K1 ∷ []) ∷
    rule Thing (word "derived" ∷ Inner K2 ∷ []) ∷
    rule Thing (word "abstract" ∷ Inner KLate ∷ []) ∷
    rule Thing (Inner KLate ∷ []) ∷
    rule K1 (Inner MaybeDerived ∷ Inner K2 ∷ []) ∷
    rule K2 (Inner MaybeAbstract ∷ Inner K3 ∷ []) ∷
    rule K3 (Inner MaybeComposite ∷ Inner K4 ∷ []) ∷
    rule K4 (Inner MaybeConst ∷ Inner K5 ∷ []) ∷
    rule K5 (Inner MaybeEnd ∷ Inner Feat ∷ []) ∷
    rule KLate (word "composite" ∷ Inner K4 ∷ []) ∷
    rule KLate (word "const" ∷ Inner K5 ∷ []) ∷
    rule KLate (word "end" ∷ Inner Feat ∷ []) ∷
    rule KLate (Inner TypeDecl ∷ []) ∷
    rule KLate (Inner Feat ∷ []) ∷
    rule TypeDecl (Inner TypeWord ∷ Inner Ident ∷ Inner Sub ∷ Inner Body ∷ []) ∷
    rule TypeDecl (word "function" ∷ Inner Ident ∷ Inner Sub ∷ Inner FunBody ∷ []) ∷
    rule TypeWord (word "type" ∷ []) ∷
    rule TypeWord (word "classifier" ∷ []) ∷
    rule TypeWord (word "class" ∷ []) ∷
    rule TypeWord (word "struct" ∷ []) ∷
    rule TypeWord (word "datatype" ∷ []) ∷
    rule TypeWord (word "assoc" ∷ []) ∷
    rule TypeWord (word "behavior" ∷ []) ∷
    rule Feat (word "feature" ∷ Inner UseTail ∷ []) ∷
    rule Feat (word "step" ∷ Inner UseTail ∷ []) ∷
    rule Feat (Inner Plain ∷ []) ∷
    rule FunBody (sign ";" ∷ []) ∷
    rule FunBody (sign "{" ∷ Inner ManyFunItem ∷ Inner MaybeExpr ∷ sign "}" ∷ []) ∷
    rule FunItem (Inner MaybeVis ∷ Inner OneImportAliasNote ∷ []) ∷
    rule ManyMember (Inner Member ∷ Inner ManyMember ∷ []) ∷
    rule ManyMember ([]) ∷
    rule MaybeVis (Inner Vis ∷ []) ∷
    rule MaybeVis ([]) ∷
    rule MaybeAll (word "all" ∷ []) ∷
    rule MaybeAll ([]) ∷
    rule MaybeDollarColonColon (sign "$" ∷ sign "::" ∷ []) ∷
    rule MaybeDollarColonColon ([]) ∷
    rule MaybeColonColonImpNext (sign "::" ∷ Inner ImpNext ∷ []) ∷
    rule MaybeColonColonImpNext ([]) ∷
    rule MaybeColonColonStarStar (sign "::" ∷ sign "**" ∷ []) ∷
    rule MaybeColonColonStarStar ([]) ∷
    rule MaybeLessNameGreater (sign "<" ∷ Terminal 0 ∷ sign ">" ∷ []) ∷
    rule MaybeLessNameGreater ([]) ∷
    rule MaybeName (Terminal 0 ∷ []) ∷
    rule MaybeName ([]) ∷
    rule MaybeAboutQNameComma (word "about" ∷ Inner QName ∷ Inner ManyCommaQName ∷ []) ∷
    rule MaybeAboutQNameComma ([]) ∷
    rule ManyCommaQName (sign "," ∷ Inner QName ∷ Inner ManyCommaQName ∷ []) ∷
    rule ManyCommaQName ([]) ∷
    rule MaybeLocaleString (word "locale" ∷ Terminal 2 ∷ []) ∷
    rule MaybeLocaleString ([]) ∷
    rule MaybeStandard (word "standard" ∷ []) ∷
    rule MaybeStandard ([]) ∷
    rule ManyColonColonName (sign "::" ∷ Terminal 0 ∷ Inner ManyColonColonName ∷ []) ∷
    rule ManyColonColonName ([]) ∷
    rule ManyDotName (sign "." ∷ Terminal 0 ∷ Inner ManyDotName ∷ []) ∷
    rule ManyDotName ([]) ∷
    rule MaybeColonGreaterQNameComma (Inner OneColonGreaterSpecializes ∷ Inner QName ∷ Inner ManyCommaQName ∷ []) ∷
    rule MaybeColonGreaterQNameComma ([]) ∷
    rule OneColonGreaterSpecializes (sign ":>" ∷ []) ∷
    rule OneColonGreaterSpecializes (word "specializes" ∷ []) ∷
    rule ManySpec (Inner Spec ∷ Inner ManySpec ∷ []) ∷
    rule ManySpec ([]) ∷
    rule MaybeMultSpec (Inner Mult ∷ Inner ManySpec ∷ []) ∷
    rule MaybeMultSpec ([]) ∷
    rule OneColonGreaterSubsets (sign ":>" ∷ []) ∷
    rule OneColonGreaterSubsets (word "subsets" ∷ []) ∷
    rule ManyCommaChain (sign "," ∷ Inner Chain ∷ Inner ManyCommaChain ∷ []) ∷
    rule ManyCommaChain ([]) ∷
    rule OneColonGreaterGreaterRedefines (sign ":>>" ∷ []) ∷
    rule OneColonGreaterGreaterRedefines (word "redefines" ∷ []) ∷
    rule OneColonColonGreaterReferences (sign "::>" ∷ []) ∷
    rule OneColonColonGreaterReferences (word "references" ∷ []) ∷
    rule MaybeOrder (Inner Order ∷ []) ∷
    rule MaybeOrder ([]) ∷
    rule MaybeNonunique (word "nonunique" ∷ []) ∷
    rule MaybeNonunique ([]) ∷
    rule MaybeOrdered (word "ordered" ∷ []) ∷
    rule MaybeOrdered ([]) ∷
    rule MaybeDotDotStar (sign ".." ∷ Inner OneStarBound ∷ []) ∷
    rule MaybeDotDotStar ([]) ∷
    rule OneStarBound (sign "*" ∷ []) ∷
    rule OneStarBound (Inner Bound ∷ []) ∷
    rule MaybeEqualsExprDefault (Inner OneEqualsExprDefault ∷ []) ∷
    rule MaybeEqualsExprDefault ([]) ∷
    rule OneEqualsExprDefault (sign "=" ∷ Inner Expr ∷ []) ∷
    rule OneEqualsExprDefault (word "default" ∷ Inner MaybeEquals ∷ Inner Expr ∷ []) ∷
    rule MaybeEquals (sign "=" ∷ []) ∷
    rule MaybeEquals ([]) ∷
    rule ManyImpliesOr (word "implies" ∷ Inner Or ∷ Inner ManyImpliesOr ∷ []) ∷
    rule ManyImpliesOr ([]) ∷
    rule ManyOrXor (Inner OneOrBar ∷ Inner Xor ∷ Inner ManyOrXor ∷ []) ∷
    rule ManyOrXor ([]) ∷
    rule OneOrBar (word "or" ∷ []) ∷
    rule OneOrBar (sign "|" ∷ []) ∷
    rule ManyXorAnd (word "xor" ∷ Inner And ∷ Inner ManyXorAnd ∷ []) ∷
    rule ManyXorAnd ([]) ∷
    rule ManyAndEq (Inner OneAndAnd ∷ Inner Eq ∷ Inner ManyAndEq ∷ []) ∷
    rule ManyAndEq ([]) ∷
    rule OneAndAnd (word "and" ∷ []) ∷
    rule OneAndAnd (sign "&" ∷ []) ∷
    rule ManyEqualsEqualsRel (Inner OneEqualsEqualsNotEquals ∷ Inner Rel ∷ Inner ManyEqualsEqualsRel ∷ []) ∷
    rule ManyEqualsEqualsRel ([]) ∷
    rule OneEqualsEqualsNotEquals (sign "==" ∷ []) ∷
    rule OneEqualsEqualsNotEquals (sign "!=" ∷ []) ∷
    rule ManyLessSum (Inner OneLessGreaterLessEquals ∷ Inner Sum ∷ Inner ManyLessSum ∷ []) ∷
    rule ManyLessSum ([]) ∷
    rule OneLessGreaterLessEquals (sign "<" ∷ []) ∷
    rule OneLessGreaterLessEquals (sign ">" ∷ []) ∷
    rule OneLessGreaterLessEquals (sign "<=" ∷ []) ∷
    rule OneLessGreaterLessEquals (sign ">=" ∷ []) ∷
    rule ManyPlusTerm (Inner OnePlusMinus ∷ Inner Term ∷ Inner ManyPlusTerm ∷ []) ∷
    rule ManyPlusTerm ([]) ∷
    rule OnePlusMinus (sign "+" ∷ []) ∷
    rule OnePlusMinus (sign "-" ∷ []) ∷
    rule ManyStarUnary (Inner OneStarSlashPercent ∷ Inner Unary ∷ Inner ManyStarUnary ∷ []) ∷
    rule ManyStarUnary ([]) ∷
    rule OneStarSlashPercent (sign "*" ∷ []) ∷
    rule OneStarSlashPercent (sign "/" ∷ []) ∷
    rule OneStarSlashPercent (sign "%" ∷ []) ∷
    rule OneMinusPlusNot (sign "-" ∷ []) ∷
    rule OneMinusPlusNot (sign "+" ∷ []) ∷
    rule OneMinusPlusNot (word "not" ∷ []) ∷
    rule MaybeDerived (word "derived" ∷ []) ∷
    rule MaybeDerived ([]) ∷
    rule MaybeAbstract (word "abstract" ∷ []) ∷
    rule MaybeAbstract ([]) ∷
    rule MaybeComposite (word "composite" ∷ []) ∷
    rule MaybeComposite ([]) ∷
    rule MaybeConst (word "const" ∷ []) ∷
    rule MaybeConst ([]) ∷
    rule MaybeEnd (word "end" ∷ []) ∷
    rule MaybeEnd ([]) ∷
    rule ManyFunItem (Inner FunItem ∷ Inner ManyFunItem ∷ []) ∷
    rule ManyFunItem ([]) ∷
    rule MaybeExpr (Inner Expr ∷ []) ∷
    rule MaybeExpr ([]) ∷
    rule OneImportAliasNote (Inner Import ∷ []) ∷
    rule OneImportAliasNote (Inner Alias ∷ []) ∷
    rule OneImportAliasNote (Inner Note ∷ []) ∷
    rule OneImportAliasNote (Inner Pack ∷ []) ∷
    rule OneImportAliasNote (word "namespace" ∷ Inner Ident ∷ Inner Body ∷ []) ∷
    rule OneImportAliasNote (Inner Dir ∷ Inner K1 ∷ []) ∷
    rule OneImportAliasNote (word "derived" ∷ Inner K2 ∷ []) ∷
    rule OneImportAliasNote (word "abstract" ∷ Inner KLate ∷ []) ∷
    rule OneImportAliasNote (word "composite" ∷ Inner K4 ∷ []) ∷
    rule OneImportAliasNote (word "const" ∷ Inner K5 ∷ []) ∷
    rule OneImportAliasNote (word "end" ∷ Inner Feat ∷ []) ∷
    rule OneImportAliasNote (Inner TypeDecl ∷ []) ∷
    rule OneImportAliasNote (word "feature" ∷ Inner UseTail ∷ []) ∷
    rule OneImportAliasNote (word "step" ∷ Inner UseTail ∷ []) ∷
    rule OneImportAliasNote (Inner NoName ∷ []) ∷
    rule OneImportAliasNote (word "return" ∷ Inner Feat ∷ []) ∷
    []
