-- The history of a lane: a list of the messages sent, and a list of the messages received.
use Rattle.std.specs.Prelude.{◌≡◌, ◌-◌, Bool, true, false, List, [], ◌∷◌, ◌++◌, length, take}
use Rattle.p21_lanes.specs.declared.history.Parcel.{Parcel}
use Rattle.p21_lanes.specs.declared.history.Parcel.TheVariants.{One, Together, Last}

-- a message of a lane: an item, or the end
pub data Message (T : Type 0) : Type 0 where
  Item : T → Message T
  End : Message T

module _ {T : Type 0} where
  -- the items among the messages, in order
  abbrev pub items_of : List (Message T) → List T
  items_of [] = []
  items_of (Item x ∷ ms) = x ∷ items_of ms
  items_of (End ∷ ms) = items_of ms

  -- whether the end is among the messages
  abbrev pub has_end : List (Message T) → Bool
  has_end [] = false
  has_end (Item x ∷ ms) = has_end ms
  has_end (End ∷ ms) = true

  -- these items in order, and then the end, if it was sent
  abbrev pub messages : List T → Bool → List (Message T)
  messages [] false = []
  messages [] true = End ∷ []
  messages (x ∷ xs) ended = Item x ∷ messages xs ended

  -- the messages in what takes the places of a ring, in order: items that were offered together take one place
  abbrev pub messages_in : List (Parcel T) → List (Message T)
  messages_in [] = []
  messages_in (One x ∷ ps) = Item x ∷ messages_in ps
  messages_in (Together v ∷ ps) = messages v.items false ++ messages_in ps
  messages_in (Last ∷ ps) = End ∷ messages_in ps

  -- the messages but for as many at the back as these items are
  abbrev pub without_last : List (Message T) → List T → List (Message T)
  without_last ms xs = take (length ms - length xs) ms

  -- these items are the last of the messages
  abbrev pub EndsWith : List (Message T) → List T → Type 0
  EndsWith ms xs = ms ≡ without_last ms xs ++ messages xs false

  -- the messages are items and at most one end, and the end is the last of them
  abbrev pub EndIsLast : List (Message T) → Type 0
  EndIsLast ms = ms ≡ messages (items_of ms) (has_end ms)

  -- the messages sent and those received are items and at most one end, the end last, and what was received is the
  -- beginning of what was sent
  pub record IsHistory (sent received : List (Message T)) : Type 0 where
    pub sent_form : EndIsLast sent
    pub received_form : EndIsLast received
    pub in_order : (rest : List (Message T)) × (sent ≡ received ++ rest)
