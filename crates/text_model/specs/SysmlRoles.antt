-- Made by `tools/make_table.py`: change tools/claim_tables.py, not this file.
use Rattle.std.specs.Prelude.{true, false, None, Some, List, [], ◌∷◌}
use Rattle.text_model.specs.Roles.{AnyKind, TypeKind, FeatureKind, RoleClaim, role_claim}

-- what each inner symbol needs and leaves, and whether it has words of kinds, takes names for a role, leaves names
unfoldable pub sysml_roles : List RoleClaim
sysml_roles =
    role_claim AnyKind None false false false ∷  -- File
    role_claim AnyKind None false false false ∷  -- Member
    role_claim AnyKind None false false false ∷  -- Vis
    role_claim AnyKind None false false false ∷  -- Import
    role_claim AnyKind None false false false ∷  -- ImpRest
    role_claim AnyKind None false false false ∷  -- ImpNext
    role_claim AnyKind None false false false ∷  -- Alias
    role_claim AnyKind None false false false ∷  -- Ident
    role_claim AnyKind None false false false ∷  -- Note
    role_claim AnyKind None false false false ∷  -- Locale
    role_claim AnyKind None false false false ∷  -- Pack
    role_claim AnyKind None false false false ∷  -- Body
    role_claim AnyKind None false false true ∷  -- QName
    role_claim AnyKind None false false true ∷  -- Chain
    role_claim AnyKind None false false false ∷  -- Dir
    role_claim TypeKind None false true false ∷  -- Sub
    role_claim FeatureKind None false true false ∷  -- SpecPart
    role_claim FeatureKind None false true false ∷  -- Spec
    role_claim AnyKind None false false false ∷  -- Mult
    role_claim AnyKind None false false false ∷  -- Order
    role_claim AnyKind None false false true ∷  -- Bounds
    role_claim AnyKind None false false true ∷  -- Bound
    role_claim AnyKind None false false false ∷  -- Value
    role_claim FeatureKind None false true false ∷  -- UseHead
    role_claim FeatureKind None false true false ∷  -- UseTail
    role_claim FeatureKind None false true false ∷  -- Plain
    role_claim FeatureKind None false true false ∷  -- NoName
    role_claim FeatureKind None false true false ∷  -- RefTail
    role_claim AnyKind None false false true ∷  -- Expr
    role_claim AnyKind None false false true ∷  -- Imp
    role_claim AnyKind None false false true ∷  -- Or
    role_claim AnyKind None false false true ∷  -- Xor
    role_claim AnyKind None false false true ∷  -- And
    role_claim AnyKind None false false true ∷  -- Eq
    role_claim AnyKind None false false true ∷  -- Rel
    role_claim AnyKind None false false true ∷  -- Sum
    role_claim AnyKind None false false true ∷  -- Term
    role_claim AnyKind None false false true ∷  -- Unary
    role_claim AnyKind None false false true ∷  -- Prim
    role_claim AnyKind None false false false ∷  -- TypedBy
    role_claim AnyKind None false false false ∷  -- Content
    role_claim AnyKind None false false false ∷  -- Thing
    role_claim FeatureKind (Some FeatureKind) true true false ∷  -- P1
    role_claim FeatureKind (Some FeatureKind) true true false ∷  -- P2
    role_claim FeatureKind (Some FeatureKind) true true false ∷  -- P3
    role_claim FeatureKind (Some FeatureKind) true true false ∷  -- P4
    role_claim FeatureKind (Some FeatureKind) true true false ∷  -- P5
    role_claim FeatureKind (Some TypeKind) true true false ∷  -- Late
    role_claim AnyKind (Some FeatureKind) true false false ∷  -- Simple
    role_claim FeatureKind (Some FeatureKind) true true false ∷  -- Usage
    role_claim AnyKind (Some TypeKind) true true false ∷  -- DefUse
    role_claim TypeKind None false true false ∷  -- DefHead
    role_claim FeatureKind None false true false ∷  -- ConTail
    role_claim FeatureKind None false true false ∷  -- CalcTail
    role_claim FeatureKind None false true false ∷  -- ReqTail
    role_claim AnyKind None false false false ∷  -- EnumBody
    role_claim AnyKind None false false false ∷  -- EnumItem
    role_claim AnyKind None false false false ∷  -- CalcBody
    role_claim AnyKind None false false false ∷  -- CalcItem
    role_claim AnyKind None false false false ∷  -- ReqBody
    role_claim AnyKind None false false false ∷  -- ReqItem
    role_claim FeatureKind (Some FeatureKind) true true true ∷  -- ReqCon
    role_claim AnyKind None false false false ∷  -- Connect
    role_claim AnyKind None false false false ∷  -- Ends
    role_claim FeatureKind None false true false ∷  -- Bind
    role_claim AnyKind None false false false ∷  -- End
    role_claim AnyKind None false false true ∷  -- EndName
    role_claim AnyKind None false false true ∷  -- EndRest
    role_claim AnyKind None false false false ∷  -- ManyMember
    role_claim AnyKind None false false false ∷  -- MaybeVis
    role_claim AnyKind None false false false ∷  -- MaybeAll
    role_claim AnyKind None false false false ∷  -- MaybeDollarColonColon
    role_claim AnyKind None false false false ∷  -- MaybeColonColonImpNext
    role_claim AnyKind None false false false ∷  -- MaybeColonColonStarStar
    role_claim AnyKind None false false false ∷  -- MaybeLessNameGreater
    role_claim AnyKind None false false false ∷  -- MaybeName
    role_claim AnyKind None false false true ∷  -- MaybeAboutQNameComma
    role_claim AnyKind None false false true ∷  -- ManyCommaQName
    role_claim AnyKind None false false false ∷  -- MaybeLocaleString
    role_claim AnyKind None false false false ∷  -- MaybeStandard
    role_claim AnyKind None false false false ∷  -- ManyColonColonName
    role_claim AnyKind None false false false ∷  -- ManyDotName
    role_claim TypeKind None false true false ∷  -- MaybeColonGreaterQNameComma
    role_claim AnyKind None false false false ∷  -- OneColonGreaterSpecializes
    role_claim FeatureKind None false true false ∷  -- ManySpec
    role_claim FeatureKind None false true false ∷  -- MaybeMultSpec
    role_claim AnyKind None false false false ∷  -- OneColonGreaterSubsets
    role_claim AnyKind None false false true ∷  -- ManyCommaChain
    role_claim AnyKind None false false false ∷  -- OneColonGreaterGreaterRedefines
    role_claim AnyKind None false false false ∷  -- OneColonColonGreaterReferences
    role_claim AnyKind None false false false ∷  -- MaybeOrder
    role_claim AnyKind None false false false ∷  -- MaybeNonunique
    role_claim AnyKind None false false false ∷  -- MaybeOrdered
    role_claim AnyKind None false false true ∷  -- MaybeDotDotStar
    role_claim AnyKind None false false true ∷  -- OneStarBound
    role_claim AnyKind None false false false ∷  -- MaybeEqualsExprDefault
    role_claim AnyKind None false false false ∷  -- OneEqualsExprDefault
    role_claim AnyKind None false false false ∷  -- MaybeEquals
    role_claim AnyKind None false false true ∷  -- ManyImpliesOr
    role_claim AnyKind None false false true ∷  -- ManyOrXor
    role_claim AnyKind None false false false ∷  -- OneOrBar
    role_claim AnyKind None false false true ∷  -- ManyXorAnd
    role_claim AnyKind None false false true ∷  -- ManyAndEq
    role_claim AnyKind None false false false ∷  -- OneAndAnd
    role_claim AnyKind None false false true ∷  -- ManyEqualsEqualsRel
    role_claim AnyKind None false false false ∷  -- OneEqualsEqualsNotEquals
    role_claim AnyKind None false false true ∷  -- ManyLessSum
    role_claim AnyKind None false false false ∷  -- OneLessGreaterLessEquals
    role_claim AnyKind None false false true ∷  -- ManyPlusTerm
    role_claim AnyKind None false false false ∷  -- OnePlusMinus
    role_claim AnyKind None false false true ∷  -- ManyStarUnary
    role_claim AnyKind None false false false ∷  -- OneStarSlashPercent
    role_claim AnyKind None false false false ∷  -- OneMinusPlusNot
    role_claim AnyKind None false false false ∷  -- MaybeDir
    role_claim AnyKind None false false false ∷  -- MaybeDerived
    role_claim AnyKind None false false false ∷  -- MaybeAbstract
    role_claim AnyKind None false false false ∷  -- MaybeConstant
    role_claim AnyKind None false false false ∷  -- MaybeRef
    role_claim AnyKind (Some FeatureKind) true false false ∷  -- OneConnectionInterface
    role_claim AnyKind (Some FeatureKind) true false false ∷  -- OneCalcConstraint
    role_claim FeatureKind (Some TypeKind) true true false ∷  -- OneDefDefHeadBody
    role_claim FeatureKind (Some TypeKind) true true false ∷  -- OneDefDefHeadEnumBody
    role_claim FeatureKind (Some TypeKind) true true false ∷  -- OneDefDefHeadBody2
    role_claim FeatureKind (Some TypeKind) true true false ∷  -- OneDefDefHeadCalcBody
    role_claim FeatureKind (Some TypeKind) true true false ∷  -- OneDefDefHeadReqBody
    role_claim AnyKind None false false false ∷  -- MaybeConnectEnds
    role_claim AnyKind None false false false ∷  -- ManyEnumItem
    role_claim AnyKind None false false false ∷  -- OneNoteEnumUseTail
    role_claim AnyKind None false false false ∷  -- ManyCalcItem
    role_claim AnyKind None false false false ∷  -- MaybeExpr
    role_claim AnyKind None false false false ∷  -- OneImportAliasNote
    role_claim AnyKind None false false false ∷  -- ManyReqItem
    role_claim AnyKind None false false false ∷  -- OneContentSubjectUseTail
    role_claim AnyKind None false false false ∷  -- OneAssumeRequire
    role_claim AnyKind None false false false ∷  -- ManyCommaEnd
    role_claim AnyKind None false false false ∷  -- MaybeBracketBoundsBracket
    []
