-- A file has at most one list of all faults.
use Rattle.std.proofs.Common.{◌≡◌, ℕ, List, [], ◌∷◌, ◌++◌, Some, None, refl, sym, ap, subst, ◌∙◌, arith, length, length-append, append-nil}
use Rattle.p21_express.specs.Schema.{Schema}
use Rattle.p21_tree.specs.declared.faults.Fault.{Fault}
use Rattle.p21_tree.specs.Sentence.{Instance, Opening}
use Rattle.p21_tree.specs.Texts.{IsFileText}
use Rattle.p21_check.specs.Header.{IsHeaderFault}
use Rattle.p21_check.specs.References.{named_in}
use Rattle.p21_refs.specs.AllReferenceFaults.{AreReferenceFaults}
use Rattle.p21_refs.specs.AllReferenceFaults as reference
use Rattle.p21_reader.specs.GrammarOutcome.{FileStopsBehind}
use Rattle.p21_reader.specs.InstanceFault.{IsInstanceFault}
use Rattle.p21_reader.specs.LocalFault.{IsOpeningFault, HasNoLocalFault}
use Rattle.p21_reader.specs.LocalFault as local
use Rattle.p21_reader.specs.AllFaults.{AreFaultsOf, AreInstanceFaults}
use Rattle.p21_reader.specs.AllFaults as faults
use Rattle.p21_reader.specs.AllLaws.{HasOneListOfFaultsAtMost}
use Rattle.p21_reader.proofs.FrontLemmas.{Goes, within, beyond, beginnings, HasAll, all_of_file, all_of_stop}
use Rattle.p21_reader.proofs.UniqueLemmas.{Laws, some_apart, some_same, instance_same, grammar_same, not_whole, stop_grammar, opening_apart, opening_same, local_apart, instances_same}
use Rattle.p21_reader.proofs.AllFaultLemmas.{local_first}

-- two lists of which each goes on with the other are one
one_of_fronts : (is js m n : List Instance) → js ≡ is ++ m → is ≡ js ++ n → is ≡ js
one_of_fronts is js [] n e f = sym (e ∙ append-nil is)
one_of_fronts is js (i ∷ m) n e f = absurd (omega (arith, ap length e, ap length f, length-append is (i ∷ m), length-append js n))

module _ (laws : Laws) where
  -- the whole instances of a file before its first grammar fault are the same ones
  all_same : (file : List ℕ) (o u : Opening) (is js : List Instance) → HasAll file o is → HasAll file u js → is ≡ js
  all_same file o u is js a b = by_ends (beginnings laws.sentences file o u is js a.end b.end a.begins b.begins).1 (beginnings laws.sentences file u o js is b.end a.end b.begins a.begins).1 where
    by_ends : Goes file b.end is js → Goes file a.end js is → is ≡ js
    by_ends (within m e) (within n f) = one_of_fronts is js m n e f
    by_ends (within m e) (beyond i n f at) = absurd (a.no_more i at)
    by_ends (beyond i m e at) g = absurd (b.no_more i at)

  faults_once : (s : Schema) (earlier is : List Instance) (a b : List Fault) → AreFaultsOf (λ i. i) (IsInstanceFault s) earlier is a → AreFaultsOf (λ i. i) (IsInstanceFault s) earlier is b → a ≡ b
  faults_once s earlier _ _ _ faults.none faults.none = refl
  faults_once s earlier _ a b (faults.faultless {x} {xs} h rest) (faults.faultless k others) = faults_once s (earlier ++ x ∷ []) xs a b rest others
  faults_once s earlier _ _ _ (faults.faultless {x} h rest) (faults.faulty {kind} k others) = absurd (some_apart kind (instance_same laws s earlier x (Some kind) None k h))
  faults_once s earlier _ _ _ (faults.faulty {x} {kind} h rest) (faults.faultless k others) = absurd (some_apart kind (instance_same laws s earlier x (Some kind) None h k))
  faults_once s earlier _ _ _ (faults.faulty {x} {xs} {fs} {kind = j} h rest) (faults.faulty {fs = gs} {kind = k} g others) =
      let kinds : j ≡ k = some_same j k (instance_same laws s earlier x (Some j) (Some k) h g) in
      let behind : fs ≡ gs = faults_once s (earlier ++ x ∷ []) xs fs gs rest others in
      let first : Fault = record { kind = k; at = x.at } in
      ap (λ z. record { kind = z; at = x.at } ∷ fs) kinds ∙ ap (λ l. first ∷ l) behind

  references_once : (s : Schema) (all is : List Instance) (a b : List Fault) → AreReferenceFaults s all is a → AreReferenceFaults s all is b → a ≡ b
  references_once s all _ _ _ reference.none reference.none = refl
  references_once s all _ a b (reference.answered {i} {is} h rest) (reference.answered k others) = references_once s all is a b rest others
  references_once s all _ _ _ (reference.answered {i} h rest) (reference.faulty {kind} k others) = absurd (some_apart kind (laws.references s (named_in all) i (Some kind) None k h))
  references_once s all _ _ _ (reference.faulty {i} {kind} h rest) (reference.answered k others) = absurd (some_apart kind (laws.references s (named_in all) i (Some kind) None h k))
  references_once s all _ _ _ (reference.faulty {i} {is} {fs} {kind = j} h rest) (reference.faulty {fs = gs} {kind = k} g others) =
      let kinds : j ≡ k = some_same j k (laws.references s (named_in all) i (Some j) (Some k) h g) in
      let behind : fs ≡ gs = references_once s all is fs gs rest others in
      let first : Fault = record { kind = k; at = i.at } in
      ap (λ z. record { kind = z; at = i.at } ∷ fs) kinds ∙ ap (λ l. first ∷ l) behind

  -- Lists of different parts of a file exclude each other.

  opening_grammar : (s : Schema) (file : List ℕ) (f g : Fault) (o : Opening) (is : List Instance) → IsOpeningFault s file f → FileStopsBehind file o is g → IsHeaderFault s o None → ⊥
  opening_grammar s file f g o is h stops header = (let all = all_of_stop laws.sentences.firsts file o is g stops in opening_apart laws s file f o is all.end h all.begins header)

  opening_whole : (s : Schema) (file : List ℕ) (f : Fault) (o : Opening) (is : List Instance) → IsOpeningFault s file f → IsFileText file o is → IsHeaderFault s o None → ⊥
  opening_whole s file f o is h whole header = (let all = all_of_file laws.sentences.firsts file o is whole in opening_apart laws s file f o is all.end h all.begins header)

  grammar_whole : (file : List ℕ) (f : Fault) (o u : Opening) (is js : List Instance) → FileStopsBehind file o is f → IsFileText file u js → ⊥
  grammar_whole file f o u is js stops whole = not_whole laws file u js f whole (stop_grammar laws file o is f stops)

  instances_references : (s : Schema) (file : List ℕ) (o : Opening) (is js : List Instance) (f : Fault) (fs : List Fault) → IsFileText file o is → IsHeaderFault s o None → AreInstanceFaults s is (f ∷ fs) → HasNoLocalFault s file js → ⊥
  instances_references s file o is js f fs whole header h w = (let all = all_of_file laws.sentences.firsts file o is whole in local_apart laws s file js f w (local_first s file o is all.end f fs all.begins header h))

  pub list_once : (s : Schema) (file : List ℕ) → HasOneListOfFaultsAtMost s file
  list_once s file _ _ (faults.before_instances {f} h) (faults.before_instances {f = g} k) = ap (λ x. x ∷ []) (opening_same laws s file f g h k)
  list_once s file _ _ (faults.before_instances {f} h) (faults.up_to_grammar {o} {is} {f = g} stops header k) = absurd (opening_grammar s file f g o is h stops header)
  list_once s file _ _ (faults.before_instances {f} h) (faults.of_instances {o} {is} whole header k) = absurd (opening_whole s file f o is h whole header)
  list_once s file _ _ (faults.before_instances {f} h) (faults.of_references {is} w k) = absurd (opening_whole s file f w.opening is h w.is_file w.header)
  list_once s file _ _ (faults.up_to_grammar {o} {is} {f} stops header h) (faults.before_instances {f = g} k) = absurd (opening_grammar s file g f o is k stops header)
  list_once s file _ _ (faults.up_to_grammar {o} {is} {fs} {f} stops header h) (faults.up_to_grammar {o = u} {is = js} {fs = gs} {f = g} others other k) =
      let last : f ≡ g = grammar_same laws file f g (stop_grammar laws file o is f stops) (stop_grammar laws file u js g others) in
      let instances : is ≡ js = all_same file o u is js (all_of_stop laws.sentences.firsts file o is f stops) (all_of_stop laws.sentences.firsts file u js g others) in
      let earlier : fs ≡ gs = faults_once s [] js fs gs (subst (λ l. AreInstanceFaults s l fs) instances h) k in
      ap (λ l. l ++ f ∷ []) earlier ∙ ap (λ x. gs ++ x ∷ []) last
  list_once s file _ _ (faults.up_to_grammar {o} {is} {f} stops header h) (faults.of_instances {o = u} {is = js} whole other k) = absurd (grammar_whole file f o u is js stops whole)
  list_once s file _ _ (faults.up_to_grammar {o} {is} {f} stops header h) (faults.of_references {is = js} w k) = absurd (grammar_whole file f o w.opening is js stops w.is_file)
  list_once s file _ _ (faults.of_instances {o} {is} whole header h) (faults.before_instances {f = g} k) = absurd (opening_whole s file g o is k whole header)
  list_once s file _ _ (faults.of_instances {o} {is} whole header h) (faults.up_to_grammar {o = u} {is = js} {f = g} others other k) = absurd (grammar_whole file g u o js is others whole)
  list_once s file _ _ (faults.of_instances {o} {is} {f} {fs} whole header h) (faults.of_instances {o = u} {is = js} {f = g} {fs = gs} others other k) =
      let instances : is ≡ js = all_same file o u is js (all_of_file laws.sentences.firsts file o is whole) (all_of_file laws.sentences.firsts file u js others) in
      faults_once s [] js (f ∷ fs) (g ∷ gs) (subst (λ l. AreInstanceFaults s l (f ∷ fs)) instances h) k
  list_once s file _ _ (faults.of_instances {o} {is} {f} {fs} whole header h) (faults.of_references {is = js} w k) = absurd (instances_references s file o is js f fs whole header h w)
  list_once s file _ _ (faults.of_references {is} w h) (faults.before_instances {f = g} k) = absurd (opening_whole s file g w.opening is k w.is_file w.header)
  list_once s file _ _ (faults.of_references {is} w h) (faults.up_to_grammar {o = u} {is = js} {f = g} others other k) = absurd (grammar_whole file g u w.opening js is others w.is_file)
  list_once s file _ _ (faults.of_references {is} w h) (faults.of_instances {o = u} {is = js} {f = g} {fs = gs} others other k) = absurd (instances_references s file u js is g gs others other k w)
  list_once s file _ _ (faults.of_references {is} {fs} w h) (faults.of_references {is = js} {fs = gs} v k) =
      let instances : is ≡ js = instances_same laws s file is js w v in
      references_once s js js fs gs (subst (λ l. AreReferenceFaults s l l fs) instances h) k
