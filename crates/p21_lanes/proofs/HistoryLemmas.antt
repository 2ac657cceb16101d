-- Lemmas on a lane's history: one more message at the back, and two lists that end together.
use Rattle.std.proofs.Common.{◌≡◌, ◌+◌, ◌≤◌, suc, Bool, true, false, List, [], ◌∷◌, ◌++◌, length, length-append}
use Rattle.std.proofs.Common.{refl, ap, sym, ◌∙◌, arith}
use Rattle.p21_lanes.specs.History.{Message, Item, End, items_of, has_end, messages, EndIsLast}

module _ {T : Type 0} where
  pub items_of-item : (ms : List (Message T)) (x : T) → items_of (ms ++ Item x ∷ []) ≡ items_of ms ++ x ∷ []
  items_of-item [] x = refl
  items_of-item (Item y ∷ ms) x = ap (λ ys. y ∷ ys) (items_of-item ms x)
  items_of-item (End ∷ ms) x = items_of-item ms x

  pub items_of-end : (ms : List (Message T)) → items_of (ms ++ End ∷ []) ≡ items_of ms
  items_of-end [] = refl
  items_of-end (Item y ∷ ms) = ap (λ ys. y ∷ ys) (items_of-end ms)
  items_of-end (End ∷ ms) = items_of-end ms

  pub has_end-item : (ms : List (Message T)) (x : T) → has_end (ms ++ Item x ∷ []) ≡ has_end ms
  has_end-item [] x = refl
  has_end-item (Item y ∷ ms) x = has_end-item ms x
  has_end-item (End ∷ ms) x = refl

  pub has_end-end : (ms : List (Message T)) → has_end (ms ++ End ∷ []) ≡ true
  has_end-end [] = refl
  has_end-end (Item y ∷ ms) = has_end-end ms
  has_end-end (End ∷ ms) = refl

  pub length-items_of-item : (ms : List (Message T)) (x : T)
      → length (items_of (ms ++ Item x ∷ [])) ≡ length (items_of ms) + 1
  length-items_of-item ms x = rw items_of-item (omega (arith, length-append (items_of ms) (x ∷ [])))

  -- each item is a message
  pub length-items_of : (ms : List (Message T)) → length (items_of ms) ≤ length ms
  length-items_of [] = omega arith
  length-items_of (Item y ∷ ms) = omega (arith, length-items_of ms)
  length-items_of (End ∷ ms) = omega (arith, length-items_of ms)

  messages-item : (xs : List T) (x : T) → messages xs false ++ Item x ∷ [] ≡ messages (xs ++ x ∷ []) false
  messages-item [] x = refl
  messages-item (y ∷ xs) x = ap (λ ms. Item y ∷ ms) (messages-item xs x)

  messages-end : (xs : List T) → messages xs false ++ End ∷ [] ≡ messages xs true
  messages-end [] = refl
  messages-end (y ∷ xs) = ap (λ ms. Item y ∷ ms) (messages-end xs)

  -- one more item, before the end, keeps the form
  pub EndIsLast-item : (ms : List (Message T)) (x : T)
      → EndIsLast ms → has_end ms ≡ false → EndIsLast (ms ++ Item x ∷ [])
  EndIsLast-item ms x form unended =
      let longer = ap (λ ns. ns ++ Item x ∷ []) form in
      simp (items_of-item, has_end-item) (rw unended (longer ∙ rw unended (messages-item (items_of ms) x)))

  -- the first end keeps the form
  pub EndIsLast-end : (ms : List (Message T)) → EndIsLast ms → has_end ms ≡ false → EndIsLast (ms ++ End ∷ [])
  EndIsLast-end ms form unended =
      let longer = ap (λ ns. ns ++ End ∷ []) form in
      simp (items_of-end, has_end-end) (longer ∙ rw unended (messages-end (items_of ms)))

  -- after an end stands nothing, so that of two ended lists, one of which begins the other, neither is longer
  messages-whole : (xs ys : List T) (rest : List (Message T))
      → messages xs true ++ rest ≡ messages ys true → xs ≡ ys
  messages-whole [] [] rest e = refl
  messages-whole [] (y ∷ ys) rest e = cc
  messages-whole (x ∷ xs) [] rest e = cc
  messages-whole (x ∷ xs) (y ∷ ys) rest e =
      let head : x ≡ y = cc in
      let tail : messages xs true ++ rest ≡ messages ys true = cc in
      let same = messages-whole xs ys rest tail in cc

  -- all items sent were received, where what was received begins what was sent and both have their ends
  pub items_of-whole : (sent received rest : List (Message T))
      → EndIsLast sent → EndIsLast received → has_end sent ≡ true → has_end received ≡ true
      → sent ≡ received ++ rest → items_of received ≡ items_of sent
  items_of-whole sent received rest sent_form received_form ended end_received in_order =
      let whole_sent : sent ≡ messages (items_of sent) true = rw (← ended) sent_form in
      let whole_received : received ≡ messages (items_of received) true = rw (← end_received) received_form in
      let begins : messages (items_of received) true ++ rest ≡ messages (items_of sent) true =
      rw (← whole_received, ← whole_sent) (sym in_order) in
      messages-whole (items_of received) (items_of sent) rest begins

  -- what was sent was received, where both have their ends
  pub all_received : (sent received rest : List (Message T))
      → EndIsLast sent → EndIsLast received → has_end sent ≡ true → has_end received ≡ true
      → sent ≡ received ++ rest → received ≡ sent
  all_received sent received rest sent_form received_form ended end_received in_order =
      let whole_sent : sent ≡ messages (items_of sent) true = rw (← ended) sent_form in
      let whole_received : received ≡ messages (items_of received) true = rw (← end_received) received_form in
      let same = items_of-whole sent received rest sent_form received_form ended end_received in_order in
      whole_received ∙ (ap (λ xs. messages xs true) same ∙ sym whole_sent)

  -- an end that comes first comes alone
  pub alone : (xs : List T) (ms : List (Message T)) → End ∷ ms ≡ messages xs true → ms ≡ []
  alone [] ms form = cc
  alone (x ∷ xs) ms form = cc

  -- after the end stands nothing
  pub no_end_before : (before : List (Message T)) (last : Message T)
      → EndIsLast (before ++ last ∷ []) → has_end before ≡ false
  no_end_before [] last form = refl
  no_end_before (Item x ∷ ms) last form =
      let rest : EndIsLast (ms ++ last ∷ []) = cc in
      no_end_before ms last rest
  no_end_before (End ∷ ms) last form =
      let none = alone (items_of (ms ++ last ∷ [])) (ms ++ last ∷ []) form in
      let short : length (ms ++ last ∷ []) ≡ length ms + 1 = omega (arith, length-append ms (last ∷ [])) in
      let empty : length (ms ++ last ∷ []) ≡ 0 = ap length none in
      absurd (omega arith)

-- more messages at the back
module _ {T : Type 0} where
  pub items_of-append : (before ms : List (Message T)) → items_of (before ++ ms) ≡ items_of before ++ items_of ms
  items_of-append [] ms = refl
  items_of-append (Item x ∷ before) ms = ap (λ ys. x ∷ ys) (items_of-append before ms)
  items_of-append (End ∷ before) ms = items_of-append before ms

  pub has_end-append : (before ms : List (Message T)) → has_end before ≡ false → has_end (before ++ ms) ≡ has_end ms
  has_end-append [] ms none = refl
  has_end-append (Item x ∷ before) ms none = has_end-append before ms none
  has_end-append (End ∷ before) ms none = cc

  pub items_of-messages : (xs : List T) (ended : Bool) → items_of (messages xs ended) ≡ xs
  items_of-messages [] true = refl
  items_of-messages [] false = refl
  items_of-messages (x ∷ xs) ended = ap (λ ys. x ∷ ys) (items_of-messages xs ended)

  pub has_end-messages : (xs : List T) (ended : Bool) → has_end (messages xs ended) ≡ ended
  has_end-messages [] true = refl
  has_end-messages [] false = refl
  has_end-messages (x ∷ xs) ended = has_end-messages xs ended

  pub length-messages : (xs : List T) → length (messages xs false) ≡ length xs
  length-messages [] = refl
  length-messages (x ∷ xs) = ap (λ n. suc n) (length-messages xs)

  messages-append : (xs ys : List T) (ended : Bool) → messages xs false ++ messages ys ended ≡ messages (xs ++ ys) ended
  messages-append [] ys ended = refl
  messages-append (x ∷ xs) ys ended = ap (λ ms. Item x ∷ ms) (messages-append xs ys ended)

  -- more messages of the form, before the end, keep it
  pub EndIsLast-append : (before ms : List (Message T)) → EndIsLast before → has_end before ≡ false → EndIsLast ms → EndIsLast (before ++ ms)
  EndIsLast-append before ms form none more =
      let front : before ≡ messages (items_of before) false = rw (← none) form in
      let joined : before ++ ms ≡ messages (items_of before) false ++ messages (items_of ms) (has_end ms) = cc in
      rw (items_of-append before ms, has_end-append before ms none) (joined ∙ messages-append (items_of before) (items_of ms) (has_end ms))
