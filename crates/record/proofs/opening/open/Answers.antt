use Rattle.std.proofs.Common.{refl, subst, arith}
use Rattle.std.proofs.lemmas.Result.{err_from_is_err_and}
use Rattle.record.specs.Opening.{NoSamples, no_samples}
use Rattle.record.proofs.Exact.{refused, opened}
use Rattle.record.proofs.Sections.{after, holds}
use Rattle.record.proofs.opening.open.Goals as goal

pub returns-in_err-found : goal.returns-in_err-found
returns-in_err-found c =
    let p = err_from_is_err_and c.from_residual.result c.from_residual.ensures.1 in
    rw (p.1, p.2) record { answer = (c.in_err-found.ensures, refl); exactly = refused _ _ c.in_err-found.ensures }

pub returns-in_err-opened : goal.returns-in_err-opened
returns-in_err-opened c =
    let p = err_from_is_err_and c.from_residual-in_err-opened.result c.from_residual-in_err-opened.ensures.1 in
    let there = after c.args.bytes.now c.in_ok-found.found c.in_ok-found.rest.now c.in_ok-found.ensures in
    let broken = no_samples c.in_ok-found.found c.in_ok-found.rest.now c.in_ok-found.ensures (subst (λ place. NoSamples place c.in_ok-found.rest.now c.in_err-opened.field-0.0) there c.in_err-opened.ensures) in
    rw (p.1, p.2) record { answer = (broken, refl); exactly = refused _ _ broken }

pub returns : goal.returns
returns c =
    let there = after c.args.bytes.now c.in_ok-found.found c.in_ok-found.rest.now c.in_ok-found.ensures in
    let whole = holds c.args.bytes.now c.in_ok-found.found c.in_ok-found.rest.now c.in_ok-opened.opened.samples c.in_ok-found.ensures c.in_ok-opened.ensures.0 in
    record { answer = (whole, omega (arith, c.in_ok-opened.ensures.1)); exactly = opened _ c.in_ok-found.found c.in_ok-opened.opened whole }
