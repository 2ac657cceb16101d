use Rattle.std.proofs.Common.{◌≡◌, Some, None, sym, ap, ◌∙◌, rules}
use denote.Enum.Bare.{same_true, true_same}
use Rattle.p21_text.specs.Spelling.{symbol}
use Rattle.p21_tree.specs.contracts.terminals.Terminal.{the_type}
use Rattle.p21_tree.specs.Terminals.{terminal_in}
use Rattle.p21_tree.proofs.ProgressLemmas.{terminal_is_in}
use Rattle.p21_tree.proofs.TerminalLemmas.{terminal_says}
use Rattle.p21_tree.proofs.tokens.is.Goals as goal

pub returns-in-Some : goal.returns-in-Some
returns-in-Some c =
    let s = symbol c.args.token in
    let found : terminal_in s ≡ Some c.in-Some.found = sym c.as_terminal.ensures ∙ c.in-Some.is in (
      λ h. terminal_says s c.args.wanted (found ∙ ap Some (same_true the_type (search rules) c.in-Some.found c.args.wanted (sym c.eq.ensures ∙ h))),
      λ e. c.eq.ensures ∙ true_same the_type c.in-Some.found c.args.wanted (let f : Some c.in-Some.found ≡ Some c.args.wanted = sym found ∙ (ap terminal_in e ∙ terminal_is_in c.args.wanted) in cc),
    )

pub returns-in-None : goal.returns-in-None
returns-in-None c =
    let s = symbol c.args.token in
    let none : terminal_in s ≡ None = sym c.as_terminal.ensures ∙ c.in-None.is in (
      λ h. absurd (cc),
      λ e. absurd (let f : None ≡ Some c.args.wanted = sym none ∙ (ap terminal_in e ∙ terminal_is_in c.args.wanted) in cc),
    )
