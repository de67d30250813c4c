-- The references of a model by where they stand.
use Rattle.std.specs.Prelude.{◌≡◌, ◌⊎◌, ◌<◌, List, map}
use Rattle.element_store.specs.Model.{Data}
use Rattle.book_model.specs.Rows.{Standing, standing, rising}
use Rattle.project_answers.specs.declared.spots.Spot.{Spot}

-- where a reference stands
abbrev pub spot_of : Standing → Spot
spot_of s = record { place = s.place; number = s.number }

-- where all of them stand, in the order of their numbers
abbrev pub spots_of : Data → List Spot
spots_of d = map spot_of (standing d)

-- and in rising order of places
abbrev pub rising_spots : Data → List Spot
rising_spots d = map spot_of (rising d)

-- the first stands before the second, or at its place with a lesser number
abbrev pub IsEarlier : Spot → Spot → Type 0
IsEarlier p q = (p.place < q.place) ⊎ ((p.place ≡ q.place) × (p.number < q.number))
