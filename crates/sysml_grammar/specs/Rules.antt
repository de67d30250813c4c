-- Made by `tools/make_table.py`: change tools/grammars, not this file.
use Rattle.std.specs.Prelude.{ℕ, List, [], ◌∷◌}
use Rattle.ll_core.specs.declared.grammar.Symbol.TheVariants.{Terminal, Inner}
use Rattle.ll_core.specs.Table.{Rule}
use Rattle.sysml_grammar.specs.Terms.{rule, word, sign}

-- the inner symbols

abbrev pub File : ℕ
File = 0

abbrev pub Member : ℕ
Member = 1

abbrev pub Vis : ℕ
Vis = 2

abbrev pub Import : ℕ
Import = 3

abbrev pub ImpRest : ℕ
ImpRest = 4

abbrev pub ImpNext : ℕ
ImpNext = 5

abbrev pub Alias : ℕ
Alias = 6

abbrev pub Ident : ℕ
Ident = 7

abbrev pub Note : ℕ
Note = 8

abbrev pub Locale : ℕ
Locale = 9

abbrev pub Pack : ℕ
Pack = 10

abbrev pub Body : ℕ
Body = 11

abbrev pub QName : ℕ
QName = 12

abbrev pub Chain : ℕ
Chain = 13

abbrev pub Dir : ℕ
Dir = 14

abbrev pub Sub : ℕ
Sub = 15

abbrev pub SpecPart : ℕ
SpecPart = 16

abbrev pub Spec : ℕ
Spec = 17

abbrev pub Mult : ℕ
Mult = 18

abbrev pub Order : ℕ
Order = 19

abbrev pub Bounds : ℕ
Bounds = 20

abbrev pub Bound : ℕ
Bound = 21

abbrev pub Value : ℕ
Value = 22

abbrev pub UseHead : ℕ
UseHead = 23

abbrev pub UseTail : ℕ
UseTail = 24

abbrev pub Plain : ℕ
Plain = 25

abbrev pub NoName : ℕ
NoName = 26

abbrev pub RefTail : ℕ
RefTail = 27

abbrev pub Expr : ℕ
Expr = 28

abbrev pub Imp : ℕ
Imp = 29

abbrev pub Or : ℕ
Or = 30

abbrev pub Xor : ℕ
Xor = 31

abbrev pub And : ℕ
And = 32

abbrev pub Eq : ℕ
Eq = 33

abbrev pub Rel : ℕ
Rel = 34

abbrev pub Sum : ℕ
Sum = 35

abbrev pub Term : ℕ
Term = 36

abbrev pub Unary : ℕ
Unary = 37

abbrev pub Prim : ℕ
Prim = 38

abbrev pub TypedBy : ℕ
TypedBy = 39

abbrev pub Content : ℕ
Content = 40

abbrev pub Thing : ℕ
Thing = 41

abbrev pub P1 : ℕ
P1 = 42

abbrev pub P2 : ℕ
P2 = 43

abbrev pub P3 : ℕ
P3 = 44

abbrev pub P4 : ℕ
P4 = 45

abbrev pub P5 : ℕ
P5 = 46

abbrev pub Late : ℕ
Late = 47

abbrev pub Simple : ℕ
Simple = 48

abbrev pub Usage : ℕ
Usage = 49

abbrev pub DefUse : ℕ
DefUse = 50

abbrev pub DefHead : ℕ
DefHead = 51

abbrev pub ConTail : ℕ
ConTail = 52

abbrev pub CalcTail : ℕ
CalcTail = 53

abbrev pub ReqTail : ℕ
ReqTail = 54

abbrev pub EnumBody : ℕ
EnumBody = 55

abbrev pub EnumItem : ℕ
EnumItem = 56

abbrev pub CalcBody : ℕ
CalcBody = 57

abbrev pub CalcItem : ℕ
CalcItem = 58

abbrev pub ReqBody : ℕ
ReqBody = 59

abbrev pub ReqItem : ℕ
ReqItem = 60

abbrev pub ReqCon : ℕ
ReqCon = 61

abbrev pub Connect : ℕ
Connect = 62

abbrev pub Ends : ℕ
Ends = 63

abbrev pub Bind : ℕ
Bind = 64

abbrev pub End : ℕ
End = 65

abbrev pub EndName : ℕ
EndName = 66

abbrev pub EndRest : ℕ
EndRest = 67

abbrev pub ManyMember : ℕ
ManyMember = 68

abbrev pub MaybeVis : ℕ
MaybeVis = 69

abbrev pub MaybeAll : ℕ
MaybeAll = 70

abbrev pub MaybeDollarColonColon : ℕ
MaybeDollarColonColon = 71

abbrev pub MaybeColonColonImpNext : ℕ
MaybeColonColonImpNext = 72

abbrev pub MaybeColonColonStarStar : ℕ
MaybeColonColonStarStar = 73

abbrev pub MaybeLessNameGreater : ℕ
MaybeLessNameGreater = 74

abbrev pub MaybeName : ℕ
MaybeName = 75

abbrev pub MaybeAboutQNameComma : ℕ
MaybeAboutQNameComma = 76

abbrev pub ManyCommaQName : ℕ
ManyCommaQName = 77

abbrev pub MaybeLocaleString : ℕ
MaybeLocaleString = 78

abbrev pub MaybeStandard : ℕ
MaybeStandard = 79

abbrev pub ManyColonColonName : ℕ
ManyColonColonName = 80

abbrev pub ManyDotName : ℕ
ManyDotName = 81

abbrev pub MaybeColonGreaterQNameComma : ℕ
MaybeColonGreaterQNameComma = 82

abbrev pub OneColonGreaterSpecializes : ℕ
OneColonGreaterSpecializes = 83

abbrev pub ManySpec : ℕ
ManySpec = 84

abbrev pub MaybeMultSpec : ℕ
MaybeMultSpec = 85

abbrev pub OneColonGreaterSubsets : ℕ
OneColonGreaterSubsets = 86

abbrev pub ManyCommaChain : ℕ
ManyCommaChain = 87

abbrev pub OneColonGreaterGreaterRedefines : ℕ
OneColonGreaterGreaterRedefines = 88

abbrev pub OneColonColonGreaterReferences : ℕ
OneColonColonGreaterReferences = 89

abbrev pub MaybeOrder : ℕ
MaybeOrder = 90

abbrev pub MaybeNonunique : ℕ
MaybeNonunique = 91

abbrev pub MaybeOrdered : ℕ
MaybeOrdered = 92

abbrev pub MaybeDotDotStar : ℕ
MaybeDotDotStar = 93

abbrev pub OneStarBound : ℕ
OneStarBound = 94

abbrev pub MaybeEqualsExprDefault : ℕ
MaybeEqualsExprDefault = 95

abbrev pub OneEqualsExprDefault : ℕ
OneEqualsExprDefault = 96

abbrev pub MaybeEquals : ℕ
MaybeEquals = 97

abbrev pub ManyImpliesOr : ℕ
ManyImpliesOr = 98

abbrev pub ManyOrXor : ℕ
ManyOrXor = 99

abbrev pub OneOrBar : ℕ
OneOrBar = 100

abbrev pub ManyXorAnd : ℕ
ManyXorAnd = 101

abbrev pub ManyAndEq : ℕ
ManyAndEq = 102

abbrev pub OneAndAnd : ℕ
OneAndAnd = 103

abbrev pub ManyEqualsEqualsRel : ℕ
ManyEqualsEqualsRel = 104

abbrev pub OneEqualsEqualsNotEquals : ℕ
OneEqualsEqualsNotEquals = 105

abbrev pub ManyLessSum : ℕ
ManyLessSum = 106

abbrev pub OneLessGreaterLessEquals : ℕ
OneLessGreaterLessEquals = 107

abbrev pub ManyPlusTerm : ℕ
ManyPlusTerm = 108

abbrev pub OnePlusMinus : ℕ
OnePlusMinus = 109

abbrev pub ManyStarUnary : ℕ
ManyStarUnary = 110

abbrev pub OneStarSlashPercent : ℕ
OneStarSlashPercent = 111

abbrev pub OneMinusPlusNot : ℕ
OneMinusPlusNot = 112

abbrev pub MaybeDir : ℕ
MaybeDir = 113

abbrev pub MaybeDerived : ℕ
MaybeDerived = 114

abbrev pub MaybeAbstract : ℕ
MaybeAbstract = 115

abbrev pub MaybeConstant : ℕ
MaybeConstant = 116

abbrev pub MaybeRef : ℕ
MaybeRef = 117

abbrev pub OneConnectionInterface : ℕ
OneConnectionInterface = 118

abbrev pub OneCalcConstraint : ℕ
OneCalcConstraint = 119

abbrev pub OneDefDefHeadBody : ℕ
OneDefDefHeadBody = 120

abbrev pub OneDefDefHeadEnumBody : ℕ
OneDefDefHeadEnumBody = 121

abbrev pub OneDefDefHeadBody2 : ℕ
OneDefDefHeadBody2 = 122

abbrev pub OneDefDefHeadCalcBody : ℕ
OneDefDefHeadCalcBody = 123

abbrev pub OneDefDefHeadReqBody : ℕ
OneDefDefHeadReqBody = 124

abbrev pub MaybeConnectEnds : ℕ
MaybeConnectEnds = 125

abbrev pub ManyEnumItem : ℕ
ManyEnumItem = 126

abbrev pub OneNoteEnumUseTail : ℕ
OneNoteEnumUseTail = 127

abbrev pub ManyCalcItem : ℕ
ManyCalcItem = 128

abbrev pub MaybeExpr : ℕ
MaybeExpr = 129

abbrev pub OneImportAliasNote : ℕ
OneImportAliasNote = 130

abbrev pub ManyReqItem : ℕ
ManyReqItem = 131

abbrev pub OneContentSubjectUseTail : ℕ
OneContentSubjectUseTail = 132

abbrev pub OneAssumeRequire : ℕ
OneAssumeRequire = 133

abbrev pub ManyCommaEnd : ℕ
ManyCommaEnd = 134

abbrev pub MaybeBracketBoundsBracket : ℕ
MaybeBracketBoundsBracket = 135

-- the productions; NAME, INT, STRING and COMMENT are the terminals 0 to 3
unfoldable pub sysml_rules : List Rule
sysml_rules =
    rule File (Inner ManyMember ∷ []) ∷
    rule Member (Inner MaybeVis ∷ Inner Content ∷ []) ∷
    rule Vis (word "public" ∷ []) ∷
    rule Vis (word "protected" ∷ []) ∷
    rule Vis (word "private" ∷ []) ∷
    rule Import (word "import" ∷ Inner MaybeAll ∷ Inner MaybeDollarColonColon ∷ Terminal 0 ∷ Inner ImpRest ∷ sign ";"
    ∷ []) ∷
    rule ImpRest (Inner MaybeColonColonImpNext ∷ []) ∷
    rule ImpNext (Terminal 0 ∷ Inner ImpRest ∷ []) ∷
    rule ImpNext (sign "*" ∷ Inner MaybeColonColonStarStar ∷ []) ∷
    rule ImpNext (sign "**" ∷ []) ∷
    rule Alias (word "alias" ∷ Inner Ident ∷ word "for" ∷ Inner QName ∷ sign ";" ∷ []) ∷
    rule Ident (Inner MaybeLessNameGreater ∷ Inner MaybeName ∷ []) ∷
    rule Note (word "doc" ∷ Inner Ident ∷ Inner Locale ∷ Terminal 3 ∷ []) ∷
    rule Note (word "comment" ∷ Inner Ident ∷ Inner MaybeAboutQNameComma ∷ Inner Locale ∷ Terminal 3 ∷ []) ∷
    rule Note (word "locale" ∷ Terminal 2 ∷ Terminal 3 ∷ []) ∷
    rule Note (Terminal 3 ∷ []) ∷
    rule Locale (Inner MaybeLocaleString ∷ []) ∷
    rule Pack (Inner MaybeStandard ∷ word "library" ∷ word "package" ∷ Inner Ident ∷ Inner Body ∷ []) ∷
    rule Pack (word "package" ∷ Inner Ident ∷ Inner Body ∷ []) ∷
    rule Body (sign ";" ∷ []) ∷
    rule Body (sign "{" ∷ Inner ManyMember ∷ sign "}" ∷ []) ∷
    rule QName (Inner MaybeDollarColonColon ∷ Terminal 0 ∷ Inner ManyColonColonName ∷ []) ∷
    rule Chain (Inner QName ∷ Inner ManyDotName ∷ []) ∷
    rule Dir (word "in" ∷ []) ∷
    rule Dir (word "out" ∷ []) ∷
    rule Dir (word "inout" ∷ []) ∷
    rule Sub (Inner MaybeColonGreaterQNameComma ∷ []) ∷
    rule SpecPart (Inner ManySpec ∷ Inner MaybeMultSpec ∷ []) ∷
    rule Spec (Inner TypedBy ∷ Inner QName ∷ Inner ManyCommaQName ∷ []) ∷
    rule Spec (Inner OneColonGreaterSubsets ∷ Inner Chain ∷ Inner ManyCommaChain ∷ []) ∷
    rule Spec (Inner OneColonGreaterGreaterRedefines ∷ Inner QName ∷ Inner ManyCommaQName ∷ []) ∷
    rule Spec (Inner OneColonColonGreaterReferences ∷ Inner Chain ∷ []) ∷
    rule Mult (sign "[" ∷ Inner Bounds ∷ sign "]" ∷ Inner MaybeOrder ∷ []) ∷
    rule Mult (Inner Order ∷ []) ∷
    rule Order (word "ordered" ∷ Inner MaybeNonunique ∷ []) ∷
    rule Order (word "nonunique" ∷ Inner MaybeOrdered ∷ []) ∷
    rule Bounds (sign "*" ∷ []) ∷
    rule Bounds (Inner Bound ∷ Inner MaybeDotDotStar ∷ []) ∷
    rule Bound (Terminal 1 ∷ []) ∷
    rule Bound (Inner QName ∷ []) ∷
    rule Value (Inner MaybeEqualsExprDefault ∷ []) ∷
    rule UseHead (Inner Ident ∷ Inner SpecPart ∷ []) ∷
    rule UseTail (Inner UseHead ∷ Inner Value ∷ Inner Body ∷ []) ∷
    rule Plain (Terminal 0 ∷ Inner RefTail ∷ []) ∷
    rule Plain (Inner NoName ∷ []) ∷
    rule NoName (sign "<" ∷ Terminal 0 ∷ sign ">" ∷ Inner MaybeName ∷ Inner RefTail ∷ []) ∷
    rule NoName (Inner Spec ∷ Inner RefTail ∷ []) ∷
    rule RefTail (Inner SpecPart ∷ Inner Value ∷ Inner Body ∷ []) ∷
    rule Expr (word "if" ∷ Inner Expr ∷ sign "?" ∷ Inner Expr ∷ word "else" ∷ Inner Expr ∷ []) ∷
    rule Expr (Inner Imp ∷ []) ∷
    rule Imp (Inner Or ∷ Inner ManyImpliesOr ∷ []) ∷
    rule Or (Inner Xor ∷ Inner ManyOrXor ∷ []) ∷
    rule Xor (Inner And ∷ Inner ManyXorAnd ∷ []) ∷
    rule And (Inner Eq ∷ Inner ManyAndEq ∷ []) ∷
    rule Eq (Inner Rel ∷ Inner ManyEqualsEqualsRel ∷ []) ∷
    rule Rel (Inner Sum ∷ Inner ManyLessSum ∷ []) ∷
    rule Sum (Inner Term ∷ Inner ManyPlusTerm ∷ []) ∷
    rule Term (Inner Unary ∷ Inner ManyStarUnary ∷ []) ∷
    rule Unary (Inner OneMinusPlusNot ∷ Inner Unary ∷ []) ∷
    rule Unary (Inner Prim ∷ []) ∷
    rule Prim (Terminal 1 ∷ []) ∷
    rule Prim (Terminal 2 ∷ []) ∷
    rule Prim (word "true" ∷ []) ∷
    rule Prim (word "false" ∷ []) ∷
    rule Prim (word "null" ∷ []) ∷
    rule Prim (Inner Chain ∷ []) ∷
    rule Prim (sign "(" ∷ Inner Expr ∷ sign ")" ∷ []) ∷
    rule TypedBy (sign ":" ∷ []) ∷
    rule TypedBy (word "defined" ∷ word "by" ∷ []) ∷
    rule Content (Inner Import ∷ []) ∷
    rule Content (Inner Alias ∷ []) ∷
    rule Content (Inner Note ∷ []) ∷
    rule Content (Inner Pack ∷ []) ∷
    rule Content (Inner Thing ∷ []) ∷
    rule Thing (word "end" ∷ Inner P1 ∷ []) ∷
    rule Thing (Inner Dir ∷ Inner P2 ∷ []) ∷
    rule Thing (word "derived" ∷ Inner P3 ∷ []) ∷
    rule Thing (word "abstract" ∷ Inner Late ∷ []) ∷
    rule Thing (Inner Late ∷ []) ∷
    rule Thing (Inner Connect ∷ []) ∷
    rule Thing (Inner Bind ∷ []) ∷
    rule P1 (Inner MaybeDir ∷ Inner P2 ∷ []) ∷
    rule P2 (Inner MaybeDerived ∷ Inner P3 ∷ []) ∷
    rule P3 (Inner MaybeAbstract ∷ Inner P4 ∷ []) ∷
    rule P4 (Inner MaybeConstant ∷ Inner P5 ∷ []) ∷
    rule P5 (Inner MaybeRef ∷ Inner Usage ∷ []) ∷
    rule Late (word "constant" ∷ Inner P5 ∷ []) ∷
    rule Late (word "ref" ∷ Inner Usage ∷ []) ∷
    rule Late (Inner DefUse ∷ []) ∷
    rule Late (Inner Plain ∷ []) ∷
    rule Simple (word "attribute" ∷ []) ∷
    rule Simple (word "occurrence" ∷ []) ∷
    rule Simple (word "item" ∷ []) ∷
    rule Simple (word "part" ∷ []) ∷
    rule Simple (word "port" ∷ []) ∷
    rule Simple (word "action" ∷ []) ∷
    rule Usage (Inner Simple ∷ Inner UseTail ∷ []) ∷
    rule Usage (word "enum" ∷ Inner UseTail ∷ []) ∷
    rule Usage (Inner OneConnectionInterface ∷ Inner ConTail ∷ []) ∷
    rule Usage (Inner OneCalcConstraint ∷ Inner CalcTail ∷ []) ∷
    rule Usage (word "requirement" ∷ Inner ReqTail ∷ []) ∷
    rule Usage (Inner Plain ∷ []) ∷
    rule DefUse (Inner Simple ∷ Inner OneDefDefHeadBody ∷ []) ∷
    rule DefUse (word "enum" ∷ Inner OneDefDefHeadEnumBody ∷ []) ∷
    rule DefUse (Inner OneConnectionInterface ∷ Inner OneDefDefHeadBody2 ∷ []) ∷
    rule DefUse (Inner OneCalcConstraint ∷ Inner OneDefDefHeadCalcBody ∷ []) ∷
    rule DefUse (word "requirement" ∷ Inner OneDefDefHeadReqBody ∷ []) ∷
    rule DefHead (Inner Ident ∷ Inner Sub ∷ []) ∷
    rule ConTail (Inner UseHead ∷ Inner Value ∷ Inner MaybeConnectEnds ∷ Inner Body ∷ []) ∷
    rule CalcTail (Inner UseHead ∷ Inner Value ∷ Inner CalcBody ∷ []) ∷
    rule ReqTail (Inner UseHead ∷ Inner Value ∷ Inner ReqBody ∷ []) ∷
    rule EnumBody (sign ";" ∷ []) ∷
    rule EnumBody (sign "{" ∷ Inner ManyEnumItem ∷ sign "}" ∷ []) ∷
    rule EnumItem (Inner MaybeVis ∷ Inner OneNoteEnumUseTail ∷ []) ∷
    rule CalcBody (sign ";" ∷ []) ∷
    rule CalcBody (sign "{" ∷ Inner ManyCalcItem ∷ Inner MaybeExpr ∷ sign "}" ∷ []) ∷
    rule CalcItem (Inner MaybeVis ∷ Inner OneImportAliasNote ∷ []) ∷
    rule ReqBody (sign ";" ∷ []) ∷
    rule ReqBody (sign "{" ∷ Inner ManyReqItem ∷ sign "}" ∷ []) ∷
    rule ReqItem (Inner MaybeVis ∷ Inner OneContentSubjectUseTail ∷ []) ∷
    rule ReqCon (word "constraint" ∷ Inner CalcTail ∷ []) ∷
    rule ReqCon (Inner Chain ∷ Inner SpecPart ∷ Inner CalcBody ∷ []) ∷
    rule Connect (word "connect" ∷ Inner Ends ∷ Inner Body ∷ []) ∷
    rule Ends (Inner End ∷ word "to" ∷ Inner End ∷ []) ∷
    rule Ends (sign "(" ∷ Inner End ∷ sign "," ∷ Inner End ∷ Inner ManyCommaEnd ∷ sign ")" ∷ []) ∷
    rule Bind (word "bind" ∷ Inner End ∷ sign "=" ∷ Inner End ∷ Inner Body ∷ []) ∷
    rule Bind (word "binding" ∷ Inner UseHead ∷ word "bind" ∷ Inner End ∷ sign "=" ∷ Inner End ∷ Inner Body ∷ []) ∷
    rule End (Inner MaybeBracketBoundsBracket ∷ Inner EndName ∷ []) ∷
    rule EndName (Terminal 0 ∷ Inner EndRest ∷ []) ∷
    rule EndName (sign "$" ∷ sign "::" ∷ Terminal 0 ∷ Inner ManyColonColonName ∷ Inner ManyDotName ∷ []) ∷
    rule EndRest (Inner OneColonColonGreaterReferences ∷ Inner Chain ∷ []) ∷
    rule EndRest (Inner ManyColonColonName ∷ Inner ManyDotName ∷ []) ∷
    rule ManyMember (Inner Member ∷ Inner ManyMember ∷ []) ∷
    rule ManyMember ([]) ∷
    rule MaybeVis (Inner Vis ∷ []) ∷
    rule MaybeVis ([]) ∷
    rule MaybeAll (word "all" ∷ []) ∷
    rule MaybeAll ([]) ∷
    rule MaybeDollarColonColon (sign "$" ∷ sign "::" ∷ []) ∷
    rule MaybeDollarColonColon ([]) ∷
    rule MaybeColonColonImpNext (sign "::" ∷ Inner ImpNext ∷ []) ∷
    rule MaybeColonColonImpNext ([]) ∷
    rule MaybeColonColonStarStar (sign "::" ∷ sign "**" ∷ []) ∷
    rule MaybeColonColonStarStar ([]) ∷
    rule MaybeLessNameGreater (sign "<" ∷ Terminal 0 ∷ sign ">" ∷ []) ∷
    rule MaybeLessNameGreater ([]) ∷
    rule MaybeName (Terminal 0 ∷ []) ∷
    rule MaybeName ([]) ∷
    rule MaybeAboutQNameComma (word "about" ∷ Inner QName ∷ Inner ManyCommaQName ∷ []) ∷
    rule MaybeAboutQNameComma ([]) ∷
    rule ManyCommaQName (sign "," ∷ Inner QName ∷ Inner ManyCommaQName ∷ []) ∷
    rule ManyCommaQName ([]) ∷
    rule MaybeLocaleString (word "locale" ∷ Terminal 2 ∷ []) ∷
    rule MaybeLocaleString ([]) ∷
    rule MaybeStandard (word "standard" ∷ []) ∷
    rule MaybeStandard ([]) ∷
    rule ManyColonColonName (sign "::" ∷ Terminal 0 ∷ Inner ManyColonColonName ∷ []) ∷
    rule ManyColonColonName ([]) ∷
    rule ManyDotName (sign "." ∷ Terminal 0 ∷ Inner ManyDotName ∷ []) ∷
    rule ManyDotName ([]) ∷
    rule MaybeColonGreaterQNameComma (Inner OneColonGreaterSpecializes ∷ Inner QName ∷ Inner ManyCommaQName ∷ []) ∷
    rule MaybeColonGreaterQNameComma ([]) ∷
    rule OneColonGreaterSpecializes (sign ":>" ∷ []) ∷
    rule OneColonGreaterSpecializes (word "specializes" ∷ []) ∷
    rule ManySpec (Inner Spec ∷ Inner ManySpec ∷ []) ∷
    rule ManySpec ([]) ∷
    rule MaybeMultSpec (Inner Mult ∷ Inner ManySpec ∷ []) ∷
    rule MaybeMultSpec ([]) ∷
    rule OneColonGreaterSubsets (sign ":>" ∷ []) ∷
    rule OneColonGreaterSubsets (word "subsets" ∷ []) ∷
    rule ManyCommaChain (sign "," ∷ Inner Chain ∷ Inner ManyCommaChain ∷ []) ∷
    rule ManyCommaChain ([]) ∷
    rule OneColonGreaterGreaterRedefines (sign ":>>" ∷ []) ∷
    rule OneColonGreaterGreaterRedefines (word "redefines" ∷ []) ∷
    rule OneColonColonGreaterReferences (sign "::>" ∷ []) ∷
    rule OneColonColonGreaterReferences (word "references" ∷ []) ∷
    rule MaybeOrder (Inner Order ∷ []) ∷
    rule MaybeOrder ([]) ∷
    rule MaybeNonunique (word "nonunique" ∷ []) ∷
    rule MaybeNonunique ([]) ∷
    rule MaybeOrdered (word "ordered" ∷ []) ∷
    rule MaybeOrdered ([]) ∷
    rule MaybeDotDotStar (sign ".." ∷ Inner OneStarBound ∷ []) ∷
    rule MaybeDotDotStar ([]) ∷
    rule OneStarBound (sign "*" ∷ []) ∷
    rule OneStarBound (Inner Bound ∷ []) ∷
    rule MaybeEqualsExprDefault (Inner OneEqualsExprDefault ∷ []) ∷
    rule MaybeEqualsExprDefault ([]) ∷
    rule OneEqualsExprDefault (sign "=" ∷ Inner Expr ∷ []) ∷
    rule OneEqualsExprDefault (word "default" ∷ Inner MaybeEquals ∷ Inner Expr ∷ []) ∷
    rule MaybeEquals (sign "=" ∷ []) ∷
    rule MaybeEquals ([]) ∷
    rule ManyImpliesOr (word "implies" ∷ Inner Or ∷ Inner ManyImpliesOr ∷ []) ∷
    rule ManyImpliesOr ([]) ∷
    rule ManyOrXor (Inner OneOrBar ∷ Inner Xor ∷ Inner ManyOrXor ∷ []) ∷
    rule ManyOrXor ([]) ∷
    rule OneOrBar (word "or" ∷ []) ∷
    rule OneOrBar (sign "|" ∷ []) ∷
    rule ManyXorAnd (word "xor" ∷ Inner And ∷ Inner ManyXorAnd ∷ []) ∷
    rule ManyXorAnd ([]) ∷
    rule ManyAndEq (Inner OneAndAnd ∷ Inner Eq ∷ Inner ManyAndEq ∷ []) ∷
    rule ManyAndEq ([]) ∷
    rule OneAndAnd (word "and" ∷ []) ∷
    rule OneAndAnd (sign "&" ∷ []) ∷
    rule ManyEqualsEqualsRel (Inner OneEqualsEqualsNotEquals ∷ Inner Rel ∷ Inner ManyEqualsEqualsRel ∷ []) ∷
    rule ManyEqualsEqualsRel ([]) ∷
    rule OneEqualsEqualsNotEquals (sign "==" ∷ []) ∷
    rule OneEqualsEqualsNotEquals (sign "!=" ∷ []) ∷
    rule ManyLessSum (Inner OneLessGreaterLessEquals ∷ Inner Sum ∷ Inner ManyLessSum ∷ []) ∷
    rule ManyLessSum ([]) ∷
    rule OneLessGreaterLessEquals (sign "<" ∷ []) ∷
    rule OneLessGreaterLessEquals (sign ">" ∷ []) ∷
    rule OneLessGreaterLessEquals (sign "<=" ∷ []) ∷
    rule OneLessGreaterLessEquals (sign ">=" ∷ []) ∷
    rule ManyPlusTerm (Inner OnePlusMinus ∷ Inner Term ∷ Inner ManyPlusTerm ∷ []) ∷
    rule ManyPlusTerm ([]) ∷
    rule OnePlusMinus (sign "+" ∷ []) ∷
    rule OnePlusMinus (sign "-" ∷ []) ∷
    rule ManyStarUnary (Inner OneStarSlashPercent ∷ Inner Unary ∷ Inner ManyStarUnary ∷ []) ∷
    rule ManyStarUnary ([]) ∷
    rule OneStarSlashPercent (sign "*" ∷ []) ∷
    rule OneStarSlashPercent (sign "/" ∷ []) ∷
    rule OneStarSlashPercent (sign "%" ∷ []) ∷
    rule OneMinusPlusNot (sign "-" ∷ []) ∷
    rule OneMinusPlusNot (sign "+" ∷ []) ∷
    rule OneMinusPlusNot (word "not" ∷ []) ∷
    rule MaybeDir (Inner Dir ∷ []) ∷
    rule MaybeDir ([]) ∷
    rule MaybeDerived (word "derived" ∷ []) ∷
    rule MaybeDerived ([]) ∷
    rule MaybeAbstract (word "abstract" ∷ []) ∷
    rule MaybeAbstract ([]) ∷
    rule MaybeConstant (word "constant" ∷ []) ∷
    rule MaybeConstant ([]) ∷
    rule MaybeRef (word "ref" ∷ []) ∷
    rule MaybeRef ([]) ∷
    rule OneConnectionInterface (word "connection" ∷ []) ∷
    rule OneConnectionInterface (word "interface" ∷ []) ∷
    rule OneCalcConstraint (word "calc" ∷ []) ∷
    rule OneCalcConstraint (word "constraint" ∷ []) ∷
    rule OneDefDefHeadBody (word "def" ∷ Inner DefHead ∷ Inner Body ∷ []) ∷
    rule OneDefDefHeadBody (Inner UseTail ∷ []) ∷
    rule OneDefDefHeadEnumBody (word "def" ∷ Inner DefHead ∷ Inner EnumBody ∷ []) ∷
    rule OneDefDefHeadEnumBody (Inner UseTail ∷ []) ∷
    rule OneDefDefHeadBody2 (word "def" ∷ Inner DefHead ∷ Inner Body ∷ []) ∷
    rule OneDefDefHeadBody2 (Inner ConTail ∷ []) ∷
    rule OneDefDefHeadCalcBody (word "def" ∷ Inner DefHead ∷ Inner CalcBody ∷ []) ∷
    rule OneDefDefHeadCalcBody (Inner CalcTail ∷ []) ∷
    rule OneDefDefHeadReqBody (word "def" ∷ Inner DefHead ∷ Inner ReqBody ∷ []) ∷
    rule OneDefDefHeadReqBody (Inner ReqTail ∷ []) ∷
    rule MaybeConnectEnds (word "connect" ∷ Inner Ends ∷ []) ∷
    rule MaybeConnectEnds ([]) ∷
    rule ManyEnumItem (Inner EnumItem ∷ Inner ManyEnumItem ∷ []) ∷
    rule ManyEnumItem ([]) ∷
    rule OneNoteEnumUseTail (Inner Note ∷ []) ∷
    rule OneNoteEnumUseTail (word "enum" ∷ Inner UseTail ∷ []) ∷
    rule OneNoteEnumUseTail (Inner Plain ∷ []) ∷
    rule ManyCalcItem (Inner CalcItem ∷ Inner ManyCalcItem ∷ []) ∷
    rule ManyCalcItem ([]) ∷
    rule MaybeExpr (Inner Expr ∷ []) ∷
    rule MaybeExpr ([]) ∷
    rule OneImportAliasNote (Inner Import ∷ []) ∷
    rule OneImportAliasNote (Inner Alias ∷ []) ∷
    rule OneImportAliasNote (Inner Note ∷ []) ∷
    rule OneImportAliasNote (Inner Pack ∷ []) ∷
    rule OneImportAliasNote (word "end" ∷ Inner P1 ∷ []) ∷
    rule OneImportAliasNote (Inner Dir ∷ Inner P2 ∷ []) ∷
    rule OneImportAliasNote (word "derived" ∷ Inner P3 ∷ []) ∷
    rule OneImportAliasNote (word "abstract" ∷ Inner Late ∷ []) ∷
    rule OneImportAliasNote (word "constant" ∷ Inner P5 ∷ []) ∷
    rule OneImportAliasNote (word "ref" ∷ Inner Usage ∷ []) ∷
    rule OneImportAliasNote (Inner DefUse ∷ []) ∷
    rule OneImportAliasNote (Inner NoName ∷ []) ∷
    rule OneImportAliasNote (Inner Connect ∷ []) ∷
    rule OneImportAliasNote (Inner Bind ∷ []) ∷
    rule OneImportAliasNote (word "return" ∷ Inner P5 ∷ []) ∷
    rule ManyReqItem (Inner ReqItem ∷ Inner ManyReqItem ∷ []) ∷
    rule ManyReqItem ([]) ∷
    rule OneContentSubjectUseTail (Inner Content ∷ []) ∷
    rule OneContentSubjectUseTail (word "subject" ∷ Inner UseTail ∷ []) ∷
    rule OneContentSubjectUseTail (Inner OneAssumeRequire ∷ Inner ReqCon ∷ []) ∷
    rule OneAssumeRequire (word "assume" ∷ []) ∷
    rule OneAssumeRequire (word "require" ∷ []) ∷
    rule ManyCommaEnd (sign "," ∷ Inner End ∷ Inner ManyCommaEnd ∷ []) ∷
    rule ManyCommaEnd ([]) ∷
    rule MaybeBracketBoundsBracket (sign "[" ∷ Inner Bounds ∷ sign "]" ∷ []) ∷
    rule MaybeBracketBoundsBracket ([]) ∷
    []
