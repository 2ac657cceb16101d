-- From what an instance has to its fault.
use Rattle.std.proofs.Common.{◌≡◌, ◌⊎◌, ⊎_elim, inl, inr, ℕ, ◌<◌, ◌≤◌, Some, None, Ok, Err, sym, subst, arith}
use Rattle.std.specs.Prelude.{Result}
use Rattle.p21_express.specs.Schema.{Schema}
use Rattle.p21_tree.specs.Sentence.{Instance}
use Rattle.p21_tree.specs.declared.faults.FaultKind.{FaultKind}
use Rattle.p21_tree.specs.declared.faults.FaultKind.TheVariants as kind
use Rattle.p21_check.specs.LocalFault.{HasFault, HasUnknownEntity, HasAbstractEntity, IsBadComplex, HasWrongCount, HasBadAttribute, HasRepeatedReference, IsLocalFault, ComesBefore, kind_number, kind_record, kind_attribute}
use Rattle.p21_check.specs.LocalFault as fault
use Rattle.p21_check.specs.Instances.{IsAnswer, IsDistinctAnswer}

later : (a b : FaultKind) → kind_number b < kind_number a → ¬ (ComesBefore a b)
later a b h (fault.by_number k) = omega arith
later a b h (fault.by_record k j) = omega arith
later a b h (fault.by_attribute k j l) = omega arith

itself : (a b : FaultKind) → kind_number b ≤ kind_number a → kind_record b ≤ kind_record a → kind_attribute b ≤ kind_attribute a → ¬ (ComesBefore a b)
itself a b h i j (fault.by_number k) = omega arith
itself a b h i j (fault.by_record k l) = omega arith
itself a b h i j (fault.by_attribute k l m) = omega arith

count_before : (q r : ℕ) → ComesBefore (kind.WrongCount q) (kind.WrongCount r) → q < r
count_before q r (fault.by_number k) = omega arith
count_before q r (fault.by_record k l) = l
count_before q r (fault.by_attribute k l m) = omega arith

attribute_before : (q b r a : ℕ) → ComesBefore (kind.BadAttribute q b) (kind.BadAttribute r a) → (q < r) ⊎ ((q ≡ r) × (b < a))
attribute_before q b r a (fault.by_number k) = absurd (omega arith)
attribute_before q b r a (fault.by_record k l) = inl l
attribute_before q b r a (fault.by_attribute k l m) = inr (l, m)

repeated_before : (q b r a : ℕ) → ComesBefore (kind.RepeatedReference q b) (kind.RepeatedReference r a) → (q < r) ⊎ ((q ≡ r) × (b < a))
repeated_before q b r a (fault.by_number k) = absurd (omega arith)
repeated_before q b r a (fault.by_record k l) = inl l
repeated_before q b r a (fault.by_attribute k l m) = inr (l, m)

module _ (s : Schema) (i : Instance) where
  -- what holds of each kind that an instance can have
  each : (Q : FaultKind → Type 0) → (HasUnknownEntity s i → Q kind.UnknownEntity) → (HasAbstractEntity s i → Q kind.AbstractEntity) → (IsBadComplex s i → Q kind.BadComplex) → ((r : ℕ) → HasWrongCount s i r → Q (kind.WrongCount r)) → ((r a : ℕ) → HasBadAttribute s i r a → Q (kind.BadAttribute r a)) → ((r a : ℕ) → HasRepeatedReference s i r a → Q (kind.RepeatedReference r a)) → (k : FaultKind) → HasFault s i k → Q k
  each Q u a b c d e kind.BadToken h = absurd h
  each Q u a b c d e kind.Unexpected h = absurd h
  each Q u a b c d e kind.Truncated h = absurd h
  each Q u a b c d e kind.TooDeep h = absurd h
  each Q u a b c d e kind.HeaderEntities h = absurd h
  each Q u a b c d e kind.WrongSchema h = absurd h
  each Q u a b c d e kind.DuplicateName h = absurd h
  each Q u a b c d e kind.UnknownEntity h = u h
  each Q u a b c d e kind.AbstractEntity h = a h
  each Q u a b c d e kind.BadComplex h = b h
  each Q u a b c d e (kind.WrongCount r) h = c r h
  each Q u a b c d e (kind.BadAttribute r x) h = d r x h
  each Q u a b c d e (kind.RepeatedReference r x) h = e r x h
  each Q u a b c d e (kind.MissingReference r x n) h = absurd h
  each Q u a b c d e (kind.WrongReference r x n) h = absurd h

  pub unknown_entity : HasUnknownEntity s i → IsLocalFault s i (Some kind.UnknownEntity)
  unknown_entity h = (h, λ other c has. each (λ x. ¬ (ComesBefore x kind.UnknownEntity)) (λ _. itself kind.UnknownEntity kind.UnknownEntity (omega arith) (omega arith) (omega arith)) (λ _. later kind.AbstractEntity kind.UnknownEntity (omega arith)) (λ _. later kind.BadComplex kind.UnknownEntity (omega arith)) (λ r _. later (kind.WrongCount r) kind.UnknownEntity (omega arith)) (λ r a _. later (kind.BadAttribute r a) kind.UnknownEntity (omega arith)) (λ r a _. later (kind.RepeatedReference r a) kind.UnknownEntity (omega arith)) other has c)

  module _ (known : ¬ (HasUnknownEntity s i)) where
    pub abstract_entity : HasAbstractEntity s i → IsLocalFault s i (Some kind.AbstractEntity)
    abstract_entity h = (h, λ other c has. each (λ x. ¬ (ComesBefore x kind.AbstractEntity)) (λ u. absurd (known u)) (λ _. itself kind.AbstractEntity kind.AbstractEntity (omega arith) (omega arith) (omega arith)) (λ _. later kind.BadComplex kind.AbstractEntity (omega arith)) (λ r _. later (kind.WrongCount r) kind.AbstractEntity (omega arith)) (λ r a _. later (kind.BadAttribute r a) kind.AbstractEntity (omega arith)) (λ r a _. later (kind.RepeatedReference r a) kind.AbstractEntity (omega arith)) other has c)

    module _ (concrete : ¬ (HasAbstractEntity s i)) where
      pub bad_complex : IsBadComplex s i → IsLocalFault s i (Some kind.BadComplex)
      bad_complex h = (h, λ other c has. each (λ x. ¬ (ComesBefore x kind.BadComplex)) (λ u. absurd (known u)) (λ u. absurd (concrete u)) (λ _. itself kind.BadComplex kind.BadComplex (omega arith) (omega arith) (omega arith)) (λ r _. later (kind.WrongCount r) kind.BadComplex (omega arith)) (λ r a _. later (kind.BadAttribute r a) kind.BadComplex (omega arith)) (λ r a _. later (kind.RepeatedReference r a) kind.BadComplex (omega arith)) other has c)

      module _ (whole : ¬ (IsBadComplex s i)) where
        pub wrong_count : (r : ℕ) → HasWrongCount s i r → ((q : ℕ) → q < r → ¬ (HasWrongCount s i q)) → IsLocalFault s i (Some (kind.WrongCount r))
        wrong_count r h first = (h, λ other c has. each (λ x. ¬ (ComesBefore x (kind.WrongCount r))) (λ u. absurd (known u)) (λ u. absurd (concrete u)) (λ u. absurd (whole u)) (λ q k b. first q (count_before q r b) k) (λ q a _. later (kind.BadAttribute q a) (kind.WrongCount r) (omega arith)) (λ q a _. later (kind.RepeatedReference q a) (kind.WrongCount r) (omega arith)) other has c)

        module _ (counted : (q : ℕ) → ¬ (HasWrongCount s i q)) where
          pub bad_attribute : (r a : ℕ) → HasBadAttribute s i r a → ((q b : ℕ) → q < r → ¬ (HasBadAttribute s i q b)) → ((b : ℕ) → b < a → ¬ (HasBadAttribute s i r b)) → IsLocalFault s i (Some (kind.BadAttribute r a))
          bad_attribute r a h records attributes = (
            h,
            λ other c has. each (λ x. ¬ (ComesBefore x (kind.BadAttribute r a))) (λ u. absurd (known u)) (λ u. absurd (concrete u)) (λ u. absurd (whole u)) (λ q k. absurd (counted q k))
                (λ q b k before. ⊎_elim (λ (l : q < r). records q b l k) (λ (l : (q ≡ r) × (b < a)). attributes b l.1 (subst (λ x. HasBadAttribute s i x b) l.0 k)) (attribute_before q b r a before)) (λ q b _. later (kind.RepeatedReference q b) (kind.BadAttribute r a) (omega arith)) other has c,
          )

          module _ (fits : (q b : ℕ) → ¬ (HasBadAttribute s i q b)) where
            pub repeated_reference : (r a : ℕ) → HasRepeatedReference s i r a → ((q b : ℕ) → q < r → ¬ (HasRepeatedReference s i q b)) → ((b : ℕ) → b < a → ¬ (HasRepeatedReference s i r b)) → IsLocalFault s i (Some (kind.RepeatedReference r a))
            repeated_reference r a h records attributes = (
              h,
              λ other c has. each (λ x. ¬ (ComesBefore x (kind.RepeatedReference r a))) (λ u. absurd (known u)) (λ u. absurd (concrete u)) (λ u. absurd (whole u)) (λ q k. absurd (counted q k)) (λ q b k. absurd (fits q b k))
                  (λ q b k before. ⊎_elim (λ (l : q < r). records q b l k) (λ (l : (q ≡ r) × (b < a)). attributes b l.1 (subst (λ x. HasRepeatedReference s i x b) l.0 k)) (repeated_before q b r a before)) other has c,
            )

            pub no_fault : ((q b : ℕ) → ¬ (HasRepeatedReference s i q b)) → IsLocalFault s i None
            no_fault none k h = each (λ x. ⊥) known concrete whole counted fits none k h

            -- what the search for repeated names answers is the answer
            pub distinct_answer : (r : Result (Unit {0}) FaultKind) → IsDistinctAnswer s i r → IsAnswer s i r
            distinct_answer (Ok u) h = no_fault h
            distinct_answer (Err k) h = subst (λ x. IsLocalFault s i (Some x)) (sym h.is) (repeated_reference h.rec_ h.attr h.repeated h.records h.attributes)
