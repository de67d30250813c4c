-- References in order.
use Rattle.std.specs.Prelude.{◌≡◌, ◌⊎◌, ℕ, ◌<◌, ◌≤◌, Bool, true, false, cond, List, [], ◌∷◌, get_or, Option, None, Some}
use Rattle.linker_base.specs.Members.{IsMember}
use Rattle.linker_base.specs.Orders.{AreInOrder}
use Rattle.link_model.specs.declared.keys.LinkKey.{LinkKey}
use Rattle.link_model.specs.Keys.{same_key}
use Rattle.link_waits.specs.declared.waits.Place.{Place}

-- the files of the references are among so many
abbrev pub HaveFiles : ℕ → List LinkKey → Type 0
HaveFiles count ks = (k : LinkKey) → IsMember ks k → k.0.file.0 < count

-- a reference with the rank of its file
abbrev pub place_of : List ℕ → LinkKey → Place
place_of ranks k = record { rank = get_or ranks k.0.file.0 0; key = k }

-- the first stands no later than the second: by their ranks, and within a file by their numbers
abbrev pub NoLater : Place → Place → Type 0
NoLater p q = (p.rank < q.rank) ⊎ ((p.rank ≡ q.rank) × (p.key.0.index ≤ q.key.0.index))

abbrev pub Rises : List Place → Type 0
Rises = AreInOrder NoLater

-- a reference is the last one, if there is one
abbrev pub is_last : Option LinkKey → LinkKey → Bool
is_last None k = false
is_last (Some l) k = same_key k l

-- the references at places behind the last one, without one that stands right behind itself
abbrev pub keys_from : Option LinkKey → List Place → List LinkKey
keys_from last [] = []
keys_from last (p ∷ ps) = cond (is_last last p.key) (keys_from last ps) (p.key ∷ keys_from (Some p.key) ps)
