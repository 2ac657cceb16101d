-- Lemmas on what takes the places of a ring: one more of them at the back, and items that are kept to be taken next.
use Rattle.std.proofs.Common.{◌≡◌, ◌+◌, ◌-◌, ◌≤◌, ℕ, zero, suc, true, false, List, [], ◌∷◌, ◌++◌, length, take, length-append, append-nil, append_assoc}
use Rattle.std.proofs.Common.{if◌then◌else◌, refl, ap, sym, subst, ◌∙◌, arith}
use Rattle.p21_lanes.specs.declared.history.Parcel.{Parcel}
use Rattle.p21_lanes.specs.declared.history.Parcel.TheVariants.{One, Together, Last}
use Rattle.p21_lanes.specs.History.{Message, Item, End, items_of, has_end, messages, messages_in, without_last, EndsWith, EndIsLast}
use Rattle.p21_lanes.proofs.HistoryLemmas.{items_of-item, has_end-item, has_end-append, items_of-append, items_of-messages, has_end-messages, length-messages, EndIsLast-append, EndIsLast-item, no_end_before, alone, items_of-end, has_end-end, length-items_of-item, length-items_of, EndIsLast-end}

module _ {T : Type 0} where
  pub messages_in-append : (ps qs : List (Parcel T)) → messages_in (ps ++ qs) ≡ messages_in ps ++ messages_in qs
  messages_in-append [] qs = refl
  messages_in-append (One x ∷ ps) qs = ap (λ ms. Item x ∷ ms) (messages_in-append ps qs)
  messages_in-append (Together v ∷ ps) qs = ap (λ ms. messages v.items false ++ ms) (messages_in-append ps qs) ∙ sym (append_assoc (messages v.items false) (messages_in ps) (messages_in qs))
  messages_in-append (Last ∷ ps) qs = ap (λ ms. End ∷ ms) (messages_in-append ps qs)

  -- a beginning of such a length is the whole list
  front_whole : (ms ns : List (Message T)) → take (length ms) (ms ++ ns) ≡ ms
  front_whole [] [] = refl
  front_whole [] (n ∷ ns) = refl
  front_whole (m ∷ ms) ns = ap (λ ls. m ∷ ls) (front_whole ms ns)

  -- in front of these items stand the others
  without_items : (front : List (Message T)) (xs : List T) → without_last (front ++ messages xs false) xs ≡ front
  without_items front xs =
      let count : length (front ++ messages xs false) - length xs ≡ length front = omega (arith, length-append front (messages xs false), length-messages xs) in
      rw count (front_whole front (messages xs false))

  -- where no item is kept, all messages were received
  pub without_none : (ms : List (Message T)) → without_last ms [] ≡ ms
  without_none ms = ap (λ ns. without_last ns []) (sym (append-nil ms)) ∙ without_items ms []

  pub EndsWith-none : (ms : List (Message T)) → EndsWith ms []
  EndsWith-none ms = sym (without_none ms) ∙ sym (append-nil (without_last ms []))

  -- before a message that is followed by others of such a list no end stands
  open_front : (before : List (Message T)) (x : T) (xs : List T) → EndIsLast (before ++ Item x ∷ messages xs false) → has_end before ≡ false
  open_front before x [] form = no_end_before before (Item x) form
  open_front [] x (y ∷ ys) form = refl
  open_front (Item z ∷ before) x (y ∷ ys) form =
      let rest : EndIsLast (before ++ Item x ∷ messages (y ∷ ys) false) = cc in
      open_front before x (y ∷ ys) rest
  open_front (End ∷ before) x (y ∷ ys) form =
      let none = alone (items_of (before ++ Item x ∷ messages (y ∷ ys) false)) (before ++ Item x ∷ messages (y ∷ ys) false) form in
      let long : length (before ++ Item x ∷ messages (y ∷ ys) false) ≡ length before + (suc (length (messages (y ∷ ys) false))) = length-append before (Item x ∷ messages (y ∷ ys) false) in
      let empty : length (before ++ Item x ∷ messages (y ∷ ys) false) ≡ 0 = ap length none in
      absurd (omega arith)

  has_end-items : (before : List (Message T)) (xs : List T) → has_end (before ++ messages xs false) ≡ has_end before
  has_end-items [] xs = has_end-messages xs false
  has_end-items (Item y ∷ before) xs = has_end-items before xs
  has_end-items (End ∷ before) xs = refl

  front_form : (before : List (Message T)) (xs : List T) → EndIsLast (before ++ messages xs false) → EndIsLast before
  front_form [] xs form = refl
  front_form (Item y ∷ before) xs form =
      let rest : EndIsLast (before ++ messages xs false) = cc in
      ap (λ ms. Item y ∷ ms) (front_form before xs rest)
  front_form (End ∷ []) xs form = refl
  front_form (End ∷ m ∷ before) xs form =
      let none = alone (items_of (m ∷ (before ++ messages xs false))) (m ∷ (before ++ messages xs false)) form in cc

  -- what was received is of the form too
  pub received_form : (ms : List (Message T)) (kept : List T) → EndsWith ms kept → EndIsLast ms → EndIsLast (without_last ms kept)
  received_form ms kept ends form = front_form (without_last ms kept) kept (subst (λ (ns : List (Message T)). EndIsLast ns) ends form)

  -- the end is kept by no list of items
  pub received_end : (ms : List (Message T)) (kept : List T) → EndsWith ms kept → has_end ms ≡ has_end (without_last ms kept)
  received_end ms kept ends = ap has_end ends ∙ has_end-items (without_last ms kept) kept

  -- An item is taken: of the messages that have left the ring, and of the items kept of them, before and after.
  pub record TakesOne (old new : List (Message T)) (kept_old kept_new : List T) (x : T) : Type 0 where
    pub form : EndIsLast new
    pub kept : EndsWith new kept_new
    pub received : without_last new kept_new ≡ without_last old kept_old ++ Item x ∷ []
    pub items : items_of (without_last new kept_new) ≡ items_of (without_last old kept_old) ++ x ∷ []
    pub open_before : has_end (without_last old kept_old) ≡ false
    pub open_after : has_end (without_last new kept_new) ≡ false
    pub open_now : has_end new ≡ false

  takes_one : (old new : List (Message T)) (kept_old kept_new : List T) (x : T) → new ≡ without_last old kept_old ++ Item x ∷ messages kept_new false → EndIsLast new → TakesOne old new kept_old kept_new x
  takes_one old new kept_old kept_new x is form =
      let front = without_last old kept_old in
      let split : new ≡ (front ++ Item x ∷ []) ++ messages kept_new false = is ∙ sym (append_assoc front (Item x ∷ []) (messages kept_new false)) in
      let received : without_last new kept_new ≡ front ++ Item x ∷ [] = ap (λ ms. without_last ms kept_new) split ∙ without_items (front ++ Item x ∷ []) kept_new in
      let open_before : has_end front ≡ false = open_front front x kept_new (subst (λ (ms : List (Message T)). EndIsLast ms) is form) in
      let open_after : has_end (without_last new kept_new) ≡ false = ap has_end received ∙ (has_end-item front x ∙ open_before) in
      record {
        form = form;
        kept = split ∙ ap (λ ms. ms ++ messages kept_new false) (sym received);
        received = received;
        items = ap items_of received ∙ items_of-item front x;
        open_before = open_before;
        open_after = open_after;
        open_now = ap has_end split ∙ (has_end-append (front ++ Item x ∷ []) (messages kept_new false) (has_end-item front x ∙ open_before) ∙ has_end-messages kept_new false);
      }

  -- the next of the items kept is taken
  pub takes_kept : (ms : List (Message T)) (kept rest : List T) (x : T) → kept ≡ x ∷ rest → EndsWith ms kept → EndIsLast ms → TakesOne ms ms kept rest x
  takes_kept ms kept rest x next ends form = takes_one ms ms kept rest x (ends ∙ ap (λ xs. without_last ms kept ++ messages xs false) next) form

  -- an item leaves the ring and is taken
  pub takes_single : (past : List (Parcel T)) (x : T) (after : List (Parcel T)) → after ≡ past ++ One x ∷ [] → EndIsLast (messages_in past) → has_end (messages_in past) ≡ false → TakesOne (messages_in past) (messages_in after) [] [] x
  takes_single past x after is form none =
      let more : messages_in after ≡ messages_in past ++ Item x ∷ [] = ap messages_in is ∙ messages_in-append past (One x ∷ []) in
      takes_one (messages_in past) (messages_in after) [] [] x (rw (without_none (messages_in past)) more) (subst (λ (ms : List (Message T)). EndIsLast ms) (sym more) (EndIsLast-item (messages_in past) x form none))

  -- items leave the ring together
  pub leave_together : (past after qs : List (Parcel T)) (xs : List T) → after ≡ past ++ qs → messages_in qs ≡ messages xs false ++ [] → EndIsLast (messages_in past) → has_end (messages_in past) ≡ false
      → (messages_in after ≡ messages_in past ++ messages xs false) × EndIsLast (messages_in after) × (has_end (messages_in after) ≡ false)
  leave_together past after qs xs is items form none =
      let more : messages_in after ≡ messages_in past ++ messages xs false = ap messages_in is ∙ (messages_in-append past qs ∙ ap (λ ms. messages_in past ++ ms) (items ∙ append-nil (messages xs false))) in (
        more,
        subst (λ (ms : List (Message T)). EndIsLast ms) (sym more) (EndIsLast-append (messages_in past) (messages xs false) form none (rw (items_of-messages xs false, has_end-messages xs false) refl)),
        ap has_end more ∙ (has_end-append (messages_in past) (messages xs false) none ∙ has_end-messages xs false),
      )

  -- the first of them is taken
  pub takes_first : (past after qs : List (Parcel T)) (xs rest : List T) (x : T) → after ≡ past ++ qs → messages_in qs ≡ messages xs false ++ [] → xs ≡ x ∷ rest → EndIsLast (messages_in past) → has_end (messages_in past) ≡ false → TakesOne (messages_in past) (messages_in after) [] rest x
  takes_first past after qs xs rest x is items first form none =
      let left = leave_together past after qs xs is items form none in
      let more : messages_in after ≡ without_last (messages_in past) [] ++ Item x ∷ messages rest false = rw (without_none (messages_in past)) (left.0 ∙ ap (λ ys. messages_in past ++ messages ys false) first) in
      takes_one (messages_in past) (messages_in after) [] rest x more left.1

  messages-items : (xs ys : List T) → messages (xs ++ ys) false ≡ messages xs false ++ messages ys false
  messages-items [] ys = refl
  messages-items (x ∷ xs) ys = ap (λ ms. Item x ∷ ms) (messages-items xs ys)

  -- items that left the ring together end with those that are kept of them
  pub ends_with_rest : (ms front : List (Message T)) (xs first rest : List T) → ms ≡ front ++ messages xs false → xs ≡ first ++ rest → EndsWith ms rest
  ends_with_rest ms front xs first rest is parts =
      let split : ms ≡ (front ++ messages first false) ++ messages rest false =
      is ∙ (ap (λ ys. front ++ messages ys false) parts ∙ (ap (λ ns. front ++ ns) (messages-items first rest) ∙ sym (append_assoc front (messages first false) (messages rest false)))) in
      split ∙ ap (λ ns. ns ++ messages rest false) (sym (ap (λ ns. without_last ns rest) split ∙ without_items (front ++ messages first false) rest))

  -- the end leaves the ring and is taken
  pub takes_end : (past after : List (Parcel T)) → after ≡ past ++ Last ∷ [] → EndIsLast (messages_in past) → has_end (messages_in past) ≡ false
      → (messages_in after ≡ messages_in past ++ End ∷ []) × EndIsLast (messages_in after) × (has_end (messages_in after) ≡ true)
  takes_end past after is form none =
      let more : messages_in after ≡ messages_in past ++ End ∷ [] = ap messages_in is ∙ messages_in-append past (Last ∷ []) in
      (more, subst (λ (ms : List (Message T)). EndIsLast ms) (sym more) (EndIsLast-end (messages_in past) form none), ap has_end more ∙ has_end-end (messages_in past))

  whole : (ms : List (Message T)) (kept : List T) → kept ≡ [] → without_last ms kept ≡ ms
  whole ms kept empty = ap (λ xs. without_last ms xs) empty ∙ without_none ms

  pub took_the_end : (old new : List (Message T)) (kept_old kept_new : List T) → kept_old ≡ [] → kept_new ≡ [] → new ≡ old ++ End ∷ [] → has_end old ≡ false
      → (without_last new kept_new ≡ (if has_end (without_last old kept_old) then without_last old kept_old else (without_last old kept_old ++ End ∷ [])))
      × (items_of (without_last new kept_new) ≡ items_of (without_last old kept_old)) × (has_end (without_last new kept_new) ≡ true)
  took_the_end old new kept_old kept_new none_old none_new is none =
      let before = whole old kept_old none_old in
      let after : without_last new kept_new ≡ old ++ End ∷ [] = whole new kept_new none_new ∙ is in
      rw (before, after, none) (refl, items_of-end old, has_end-end old)

  pub took_nothing : (old new : List (Message T)) (kept_old kept_new xs : List T) → kept_old ≡ [] → kept_new ≡ [] → xs ≡ [] → new ≡ old ++ messages xs false → has_end old ≡ false
      → (without_last new kept_new ≡ without_last old kept_old) × (has_end (without_last old kept_old) ≡ false)
  took_nothing old new kept_old kept_new xs none_old none_new empty is none =
      let before = whole old kept_old none_old in
      let same : new ≡ old = is ∙ (ap (λ ys. old ++ messages ys false) empty ∙ append-nil old) in
      (whole new kept_new none_new ∙ (same ∙ sym before), ap has_end before ∙ none)

  -- what was received begins what was sent
  pub received_begins : (pushed popped rest : List (Parcel T)) (kept : List T) → pushed ≡ popped ++ rest → EndsWith (messages_in popped) kept
      → messages_in pushed ≡ without_last (messages_in popped) kept ++ (messages kept false ++ messages_in rest)
  received_begins pushed popped rest kept is ends =
      ap messages_in is ∙ (messages_in-append popped rest ∙ (ap (λ ms. ms ++ messages_in rest) ends ∙ append_assoc (without_last (messages_in popped) kept) (messages kept false) (messages_in rest)))

-- one more of what takes a place at the back: its messages, the end and the form
pub ruleset one_more_place = (
  messages_in-append,
  append-nil,
  items_of-append,
  has_end-append,
  items_of-messages,
  has_end-messages,
  length-messages,
  length-append,
  EndIsLast-append,
  items_of-item,
  items_of-end,
  has_end-item,
  has_end-end,
  length-items_of-item,
  length-items_of,
  EndIsLast-item,
  EndIsLast-end,
)
