use Rattle.std.proofs.Common.{◌+◌, length, arith, sym, ap, ◌∙◌}
use Rattle.std.proofs.lemmas.List.{take_rest}
use Rattle.bstr.specs.Utf8.{lossy_chars}
use Rattle.p21_printed.proofs.LineEndLemmas.{line_ends_of_two, line_ends_at_most}
use Rattle.p21_printed.proofs.PlaceLemmas.{column_in_line, column_behind, column_bound, no_line_ends, line_goes_on, line_begins}
use Rattle.p21_printed.proofs.place.place_behind.Goals as goal

pub overflow_add-result : goal.overflow_add-result
overflow_add-result c =
    let ends = line_ends_at_most c.args.before.now in
    grind arith

pub overflow_add-result-in-None : goal.overflow_add-result-in-None
overflow_add-result-in-None c =
    let column = column_bound c.args.before.now c.args.last.now.start in
    grind arith

pub returns-in-Some : goal.returns-in-Some
returns-in-Some c =
    let s = c.args.before.now in
    let t = c.args.between.now in
    let ends = line_ends_of_two s t in
    let before = c.requires.last.line in
    let count = c.line_ends_in.ensures.count in
    record {
      line = omega arith;
      start = line_begins s t c.in-Some.end c.in-Some.ensures.0 c.in-Some.ensures.1;
      column = ap (λ n. n + 1) c.char_count.ensures.count ∙ ap (λ l. length (lossy_chars l) + 1) (take_rest t (c.in-Some.end + 1)) ∙ sym (column_behind s t c.in-Some.end);
    }

pub returns-in-None : goal.returns-in-None
returns-in-None c =
    let s = c.args.before.now in
    let t = c.args.between.now in
    let ends = line_ends_of_two s t in
    let none = no_line_ends t c.in-None.ensures in
    let before = c.requires.last.line in
    let column = c.requires.last.column in
    let count = c.char_count-in-None.ensures.count in
    let longer = column_in_line s t c.args.last.now.start c.requires.last.start.within c.requires.front in
    record {
      line = omega arith;
      start = line_goes_on s t c.args.last.now.start c.requires.last.start c.in-None.ensures;
      column = omega arith;
    }
