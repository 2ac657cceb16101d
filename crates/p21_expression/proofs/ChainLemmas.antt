-- How operations of one precedence are read, step by step.
use Rattle.std.proofs.Common.{◌≡◌, Bool, true, false, List, Option, Some, None, refl}
use Rattle.p21_express.specs.Word.{Word}
use Rattle.p21_express.specs.declared.refusal.Refusal.{Refusal}
use Rattle.p21_express.specs.declared.refusal.Refusal.TheVariants as refusal
use Rattle.p21_express.specs.Reader.{◌>>=◌, Fails}
use Rattle.p21_expression.specs.declared.operators.Precedence.{Precedence}
use Rattle.p21_expression.specs.Reader.{chain_by, fits, operations_at}
use Rattle.p21_expression.specs.Tree.{Tree, Step, operations, steps}

pub chain_fails : (operand : List Word → Option (Tree × List Word)) (p : Precedence) (ws mid : List Word) (t : Tree) (e : Refusal) → operand ws ≡ Some (t, mid) → Fails e (operations_at operand p mid) → Fails e (chain_by operand p ws)
unfolding chain_by
chain_fails operand p ws mid t refusal.Memory first f = tt
chain_fails operand p ws mid t (refusal.Refused k n) first f = rw (first, f) refl

pub chain_unfit : (operand : List Word → Option (Tree × List Word)) (p : Precedence) (ws mid rest : List Word) (t : Tree) (ss : List Step) → operand ws ≡ Some (t, mid) → operations_at operand p mid ≡ Some (ss, rest) → fits p ss ≡ false → chain_by operand p ws ≡ None
unfolding chain_by
chain_unfit operand p ws mid rest t ss first f g = rw (first, f, g) refl

pub chain_made : (operand : List Word → Option (Tree × List Word)) (p : Precedence) (ws mid rest : List Word) (t : Tree) (ss : List Step) → operand ws ≡ Some (t, mid) → operations_at operand p mid ≡ Some (ss, rest) → fits p ss ≡ true → chain_by operand p ws ≡ Some (operations t (steps ss), rest)
unfolding chain_by
chain_made operand p ws mid rest t ss first f g = rw (first, f, g) refl
