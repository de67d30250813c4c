-- Made by `tools/make_library.py`: change tools/library, not this file.
use Rattle.std.specs.Prelude.{ℕ, List, [], ◌∷◌, ◌++◌, codes}

-- lines, each ended by a line feed
abbrev pub lines : List (List ℕ) → List ℕ
lines [] = []
lines (l ∷ ls) = l ++ (10 ∷ lines ls)

-- $lib/Actions.sysml
unfoldable pub actions : List ℕ
actions = lines (
    codes "library package Actions {" ∷
    codes "    abstract action def Action :> Performances::Performance;" ∷
    codes "    abstract action actions : Action [0..*] :> Performances::performances;" ∷
    codes "}" ∷
    [])

-- $lib/Base.kerml
unfoldable pub base : List ℕ
base = lines (
    codes "library package Base {" ∷
    codes "    abstract classifier Anything;" ∷
    codes "    abstract feature things : Anything [0..*];" ∷
    codes "    abstract datatype DataValue :> Anything;" ∷
    codes "    abstract feature dataValues : DataValue [0..*] :> things;" ∷
    codes "}" ∷
    [])

-- $lib/Calculations.sysml
unfoldable pub calculations : List ℕ
calculations = lines (
    codes "library package Calculations {" ∷
    codes "    abstract calc def Calculation :> Actions::Action, Performances::Evaluation;" ∷
    codes "    abstract calc calculations : Calculation [0..*] :> Actions::actions, Performances::evaluations;" ∷
    codes "}" ∷
    [])

-- $lib/Connections.sysml
unfoldable pub connections : List ℕ
connections = lines (
    codes "library package Connections {" ∷
    codes "    abstract connection def Connection :> Parts::Part, Links::Link;" ∷
    codes "    abstract connection connections : Connection [0..*] :> Parts::parts, Links::links;" ∷
    codes "}" ∷
    [])

-- $lib/Constraints.sysml
unfoldable pub constraints : List ℕ
constraints = lines (
    codes "library package Constraints {" ∷
    codes "    abstract constraint def ConstraintCheck :> Performances::Evaluation;" ∷
    codes "    abstract constraint constraintChecks : ConstraintCheck [0..*] :> Performances::evaluations;" ∷
    codes "}" ∷
    [])

-- $lib/Interfaces.sysml
unfoldable pub interfaces : List ℕ
interfaces = lines (
    codes "library package Interfaces {" ∷
    codes "    abstract interface def Interface :> Connections::Connection;" ∷
    codes "    abstract interface interfaces : Interface [0..*] :> Connections::connections;" ∷
    codes "}" ∷
    [])

-- $lib/Items.sysml
unfoldable pub items : List ℕ
items = lines (
    codes "library package Items {" ∷
    codes "    abstract item def Item :> Objects::Object;" ∷
    codes "    abstract item items : Item [0..*] :> Objects::objects;" ∷
    codes "}" ∷
    [])

-- $lib/Links.kerml
unfoldable pub links : List ℕ
links = lines (
    codes "library package Links {" ∷
    codes "    abstract assoc Link :> Base::Anything;" ∷
    codes "    abstract feature links : Link [0..*] :> Base::things;" ∷
    codes "    abstract feature selfLinks : Link [0..*] :> links;" ∷
    codes "}" ∷
    [])

-- $lib/Objects.kerml
unfoldable pub objects : List ℕ
objects = lines (
    codes "library package Objects {" ∷
    codes "    abstract struct Object :> Occurrences::Occurrence;" ∷
    codes "    abstract feature objects : Object [0..*] :> Occurrences::occurrences;" ∷
    codes "}" ∷
    [])

-- $lib/Occurrences.kerml
unfoldable pub occurrences : List ℕ
occurrences = lines (
    codes "library package Occurrences {" ∷
    codes "    private import Base::*;" ∷
    codes "    abstract class Occurrence :> Anything;" ∷
    codes "    abstract feature occurrences : Occurrence [0..*] :> things;" ∷
    codes "}" ∷
    [])

-- $lib/Parts.sysml
unfoldable pub parts : List ℕ
parts = lines (
    codes "library package Parts {" ∷
    codes "    abstract part def Part :> Items::Item;" ∷
    codes "    abstract part parts : Part [0..*] :> Items::items;" ∷
    codes "}" ∷
    [])

-- $lib/Performances.kerml
unfoldable pub performances : List ℕ
performances = lines (
    codes "library package Performances {" ∷
    codes "    abstract behavior Performance :> Occurrences::Occurrence;" ∷
    codes "    abstract step performances : Performance [0..*] :> Occurrences::occurrences;" ∷
    codes "    abstract function Evaluation :> Performance;" ∷
    codes "    abstract step evaluations : Evaluation [0..*] :> performances;" ∷
    codes "}" ∷
    [])

-- $lib/Ports.sysml
unfoldable pub ports : List ℕ
ports = lines (
    codes "library package Ports {" ∷
    codes "    abstract port def Port :> Objects::Object;" ∷
    codes "    abstract port ports : Port [0..*] :> Objects::objects;" ∷
    codes "}" ∷
    [])

-- $lib/Requirements.sysml
unfoldable pub requirements : List ℕ
requirements = lines (
    codes "library package Requirements {" ∷
    codes "    abstract requirement def RequirementCheck :> Constraints::ConstraintCheck;" ∷
    codes "    abstract requirement requirementChecks : RequirementCheck [0..*] :> Constraints::constraintChecks;" ∷
    codes "}" ∷
    [])

-- $lib/ScalarValues.kerml
unfoldable pub scalar_values : List ℕ
scalar_values = lines (
    codes "library package ScalarValues {" ∷
    codes "    abstract datatype ScalarValue :> Base::DataValue;" ∷
    codes "    datatype Boolean :> ScalarValue;" ∷
    codes "    datatype String :> ScalarValue;" ∷
    codes "    abstract datatype NumericalValue :> ScalarValue;" ∷
    codes "    datatype Real :> NumericalValue;" ∷
    codes "    datatype Rational :> Real;" ∷
    codes "    datatype Integer :> Rational;" ∷
    codes "    datatype Natural :> Integer;" ∷
    codes "    datatype Positive :> Natural;" ∷
    codes "}" ∷
    [])

-- THE LIBRARY: its names and texts, in byte order of names
unfoldable pub library : List (List ℕ × List ℕ)
library =
    (codes "$lib/Actions.sysml", actions) ∷
    (codes "$lib/Base.kerml", base) ∷
    (codes "$lib/Calculations.sysml", calculations) ∷
    (codes "$lib/Connections.sysml", connections) ∷
    (codes "$lib/Constraints.sysml", constraints) ∷
    (codes "$lib/Interfaces.sysml", interfaces) ∷
    (codes "$lib/Items.sysml", items) ∷
    (codes "$lib/Links.kerml", links) ∷
    (codes "$lib/Objects.kerml", objects) ∷
    (codes "$lib/Occurrences.kerml", occurrences) ∷
    (codes "$lib/Parts.sysml", parts) ∷
    (codes "$lib/Performances.kerml", performances) ∷
    (codes "$lib/Ports.sysml", ports) ∷
    (codes "$lib/Requirements.sysml", requirements) ∷
    (codes "$lib/ScalarValues.kerml", scalar_values) ∷
    []
