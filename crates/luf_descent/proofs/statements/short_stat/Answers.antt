use Rattle.luf_descent.proofs.StatParts.{break_found, empty_found}
use Rattle.luf_descent.proofs.Knowing.{on, here_stops, err_map, ok_map}
use Rattle.luf_descent.proofs.BlockStops.{short_goto, short_label, short_other}
use Rattle.luf_descent.proofs.KnownStats.{break_known, empty_known, short_goto_known, short_label_known}
use Rattle.luf_descent.proofs.statements.short_stat.Goals as goal

pub returns-in-Some-clause-ok : goal.returns-in-Some-clause-ok
returns-in-Some-clause-ok c = let h0 = c.in-Some.ensures in break_found h0.token h0.within

pub returns-in-Some-eat-clause-ok : goal.returns-in-Some-eat-clause-ok
returns-in-Some-eat-clause-ok c = let h0 = c.in-Some-eat.ensures in empty_found h0.token h0.within

pub returns-in-Some-clause-known : goal.returns-in-Some-clause-known
returns-in-Some-clause-known c = break_known c.in-Some.ensures.token

pub returns-in-Some-eat-clause-known : goal.returns-in-Some-eat-clause-known
returns-in-Some-eat-clause-known c = empty_known c.in-Some-eat.ensures.token

pub returns-in-Some-eat-2-clause-known : goal.returns-in-Some-eat-2-clause-known
returns-in-Some-eat-2-clause-known c = ok_map _ c.goto_stat.ensures.ok c.goto_stat.ensures.known (λ s ok known. short_goto_known c.in-Some-eat-2.ensures.token (on ok) known)

pub returns-in-Some-eat-3-clause-known : goal.returns-in-Some-eat-3-clause-known
returns-in-Some-eat-3-clause-known c = ok_map _ c.label_stat.ensures.ok c.label_stat.ensures.known (λ s ok known. short_label_known c.in-Some-eat-3.ensures.token (on ok) known)

pub returns-in-Some-eat-2-clause-stops : goal.returns-in-Some-eat-2-clause-stops
returns-in-Some-eat-2-clause-stops c = λ left within. err_map _ (c.goto_stat.ensures.stops left c.in-Some-eat-2.ensures.within) (λ e h. short_goto c.in-Some-eat-2.ensures.token h)

pub returns-in-Some-eat-3-clause-stops : goal.returns-in-Some-eat-3-clause-stops
returns-in-Some-eat-3-clause-stops c = λ left within. err_map _ (c.label_stat.ensures.stops left c.in-Some-eat-3.ensures.within) (λ e h. short_label c.in-Some-eat-3.ensures.token h)

pub returns-clause-stops : goal.returns-clause-stops
returns-clause-stops c = λ left within. here_stops (c.refusal.ensures within) (short_other within c.in_default.ensures.other c.in_default-eat.ensures.other c.in_default-eat-2.ensures.other c.in_default-eat-3.ensures.other)
