-- What an expression says, without where it lies in memory.
use Rattle.std.specs.Prelude.{ℕ, List, [], ◌∷◌, Option}
use Rattle.p21_expression.specs.declared.tree.BinaryOperator.{BinaryOperator}
use Rattle.p21_expression.specs.declared.tree.Constant.{Constant}
use Rattle.p21_expression.specs.declared.tree.IntervalOperator.{IntervalOperator}
use Rattle.p21_expression.specs.declared.tree.Truth.{Truth}
use Rattle.p21_expression.specs.declared.tree.UnaryOperator.{UnaryOperator}

-- a name, and how many words stand from it on
pub record Name : Type 0 where
  pub text : List ℕ
  pub place : ℕ

mutual
  -- an expression
  pub data Tree : Type 0 where
    integer : Option ℕ → ℕ → Tree
    real : ℕ → Tree
    text : ℕ → Tree
    binary : ℕ → Tree
    truth : Truth → Tree
    constant : Constant → Tree
    named : Name → Tree
    call : Name → Trees → Tree
    qualified_by : Tree → Qualifier → Qualifiers → Tree
    unary : UnaryOperator → Tree → Tree
    operated : Tree → Step → Steps → Tree
    aggregate : Elements → Tree
    interval : Tree → IntervalOperator → Tree → IntervalOperator → Tree → Tree
    query : Name → Tree → Tree → Tree

  pub data Trees : Type 0 where
    no_trees : Trees
    more_trees : Tree → Trees → Trees

  pub data Qualifier : Type 0 where
    attribute : Name → Qualifier
    group : Name → Qualifier
    index : Tree → Qualifier
    range : Tree → Tree → Qualifier

  pub data Qualifiers : Type 0 where
    no_qualifiers : Qualifiers
    more_qualifiers : Qualifier → Qualifiers → Qualifiers

  -- an operator, its place, and its right operand
  pub data Step : Type 0 where
    step : BinaryOperator → ℕ → Tree → Step

  pub data Steps : Type 0 where
    no_steps : Steps
    more_steps : Step → Steps → Steps

  pub data Element : Type 0 where
    once : Tree → Element
    repeated : Tree → Tree → Element

  pub data Elements : Type 0 where
    no_elements : Elements
    more_elements : Element → Elements → Elements

abbrev pub trees : List Tree → Trees
trees [] = no_trees
trees (t ∷ ts) = more_trees t (trees ts)

abbrev pub qualifiers : List Qualifier → Qualifiers
qualifiers [] = no_qualifiers
qualifiers (q ∷ qs) = more_qualifiers q (qualifiers qs)

abbrev pub steps : List Step → Steps
steps [] = no_steps
steps (s ∷ ss) = more_steps s (steps ss)

abbrev pub elements : List Element → Elements
elements [] = no_elements
elements (e ∷ es) = more_elements e (elements es)

-- a first operand and the operations on it
abbrev pub operations : Tree → Steps → Tree
operations t no_steps = t
operations t (more_steps s ss) = operated t s ss

-- what is qualified, if it is
abbrev pub qualified : Tree → Qualifiers → Tree
qualified t no_qualifiers = t
qualified t (more_qualifiers q qs) = qualified_by t q qs
