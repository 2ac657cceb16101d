use Rattle.p21_outline.proofs.outline_list.OutlineList.with_capacity.Goals as goal

pub returns-clause-fits : goal.returns-clause-fits
returns-clause-fits c = c.in_ok-with_capacity-2.ensures.fits
