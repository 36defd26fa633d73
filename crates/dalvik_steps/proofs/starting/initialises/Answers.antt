use Rattle.std.proofs.Common.{◌≡◌, ◌∙◌, ◌-◌, length, ap, arith, refl, sym, subst}
use Rattle.std.specs.Prelude.{None, slice_get}
use Rattle.dalvik_state.specs.Runs.{script_in, IsEvent}
use Rattle.dalvik_steps.proofs.Started.{none_first}
use Rattle.dalvik_steps.proofs.starting.initialises.Goals as goal

pub returns-in-Some-clause-ok : goal.returns-in-Some-clause-ok
returns-in-Some-clause-ok c = λ steps script setting class above next face run there.
    c.looks_at.ensures.ok steps script setting class above next face run there (sym (c.first_needed.ensures class above next there) ∙ c.in-Some.is)

pub returns-in-Some-clause-kept : goal.returns-in-Some-clause-kept
returns-in-Some-clause-kept c = λ steps class above next run there.
    c.looks_at.ensures.kept steps class above next run there (sym (c.first_needed.ensures class above next there) ∙ c.in-Some.is)

pub returns-in-Some-clause-err : goal.returns-in-Some-clause-err
returns-in-Some-clause-err c = λ steps class above next run there.
    c.looks_at.ensures.err steps class above next run there (sym (c.first_needed.ensures class above next there) ∙ c.in-Some.is)

pub returns-in_ok-goes_on-in-None-clause-ok : goal.returns-in_ok-goes_on-in-None-clause-ok
returns-in_ok-goes_on-in-None-clause-ok c = λ steps script setting class above next face run there.
    let l = c.args.tables.now.lookups in
    let old = c.args.state.now in
    let top : c.saturating_sub-top.result ≡ length old.stack.items - 1 = omega arith in
    let at = ap (slice_get old.stack.items) top ∙ there in
    record {
      event = subst (IsEvent l steps script c.goes_on.new.state None)
          (none_first l setting face old class above next script (script_in script old) there c.saturating_sub-top.result (sym (c.first_needed.ensures class above next there) ∙ c.in-None.is) top)
          (record { left = c.in_ok-goes_on-in-None.ensures.class steps script class above next run.right run.state run.on at; shown = refl });
      kept = run.kept;
    }
