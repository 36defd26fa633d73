use Rattle.std.proofs.Common.{◌∙◌, ◌++◌, ap, subst}
use Rattle.call_graph.specs.Closed.{kept_facts, Reaches}
use Rattle.call_graph.proofs.Growth.{follows_first, follows_on, closed_then}
use Rattle.call_graph.specs.Least.{WaitsAmong}
use Rattle.call_graph.proofs.Reaching.{all_none, known_ends, known_first, known_on, notes_none}
use Rattle.call_graph.proofs.live_set.search.Goals as goal

pub loop-fact-init : goal.loop-fact-init
loop-fact-init c = record {
  sized = (
    c.in_ok-add_all.ensures.grows.1 ∙ c.in_ok-facts.ensures.sized.0,
    c.in_ok-add_all.ensures.grows.2 ∙ c.in_ok-facts.ensures.sized.1,
    c.in_ok-add_all.ensures.grows.3 ∙ c.in_ok-facts.ensures.sized.2,
    c.in_ok-add_all.ensures.grows.4 ∙ c.in_ok-facts.ensures.sized.3,
    c.in_ok-add_all.ensures.grows.5 ∙ c.in_ok-facts.ensures.sized.4,
  );
  notes = λ is fits common. c.in_ok-notes.ensures.notes is;
  follows = λ is fits common. follows_first c.args.program.now c.args.outside.now c.args.tables.now c.in_ok-notes.notes c.in_ok-facts.facts c.add_all.new.self c.begin.new.out.items c.in_ok-facts.ensures.blank c.in_ok-notes.ensures.nothing c.in_ok-add_all.ensures.goes
      (c.in_ok-begin.ensures is ∙ ap (λ l. l ++ kept_facts c.args.program.now c.args.outside.now) c.new-more.ensures.items)
      (subst (λ l. Reaches c.add_all.new.self l) c.as_slice.ensures.value c.in_ok-add_all.ensures.known);
  noted = λ is fits has common. notes_none c.args.program.now c.args.outside.now c.args.tables.now c.in_ok-notes.notes c.in_ok-notes.ensures.nothing;
  known = λ is fits has common. known_first c.args.program.now c.args.outside.now c.args.tables.now c.in_ok-facts.facts c.add_all.new.self c.begin.new.out.items c.in_ok-facts.ensures.blank c.in_ok-facts.ensures.idle c.in_ok-add_all.ensures.goes
      (subst (λ l. WaitsAmong c.in_ok-facts.facts c.add_all.new.self l) c.as_slice.ensures.value c.in_ok-add_all.ensures.from)
      (c.in_ok-begin.ensures is ∙ ap (λ l. l ++ kept_facts c.args.program.now c.args.outside.now) c.new-more.ensures.items);
}

pub loop-fact-preserved : goal.loop-fact-preserved
loop-fact-preserved c = record {
  sized = (
    c.in_ok-add_all-2.ensures.grows.1 ∙ c.in-Some.ensures.grows.1 ∙ c.loop-fact.invariant.sized.0,
    c.in_ok-add_all-2.ensures.grows.2 ∙ c.in-Some.ensures.grows.2 ∙ c.loop-fact.invariant.sized.1,
    c.in_ok-add_all-2.ensures.grows.3 ∙ c.in-Some.ensures.grows.3 ∙ c.loop-fact.invariant.sized.2,
    c.in_ok-add_all-2.ensures.grows.4 ∙ c.in-Some.ensures.grows.4 ∙ c.loop-fact.invariant.sized.3,
    c.in_ok-add_all-2.ensures.grows.5 ∙ c.in-Some.ensures.grows.5 ∙ c.loop-fact.invariant.sized.4,
  );
  notes = λ is fits common. (c.in_ok-follow.ensures.followed is fits (c.loop-fact.invariant.notes is fits common) common).are;
  follows = λ is fits common.
      follows_on c.args.program.now c.args.outside.now c.args.tables.now c.loop-fact.notes c.follow.new.notes c.loop-fact.facts c.next.new.self c.add_all-in-Some.new.self c.in-Some.fact c.follow.new.out.items
      (c.loop-fact.invariant.follows is fits common) c.in-Some.ensures.takes c.in_ok-add_all-2.ensures.goes (c.in_ok-follow.ensures.followed is fits (c.loop-fact.invariant.notes is fits common) common)
      (subst (λ l. Reaches c.add_all-in-Some.new.self l) c.as_slice-in-Some.ensures.value c.in_ok-add_all-2.ensures.known);
  noted = λ is fits has common. (c.in_ok-follow.ensures.reached c.args.outside.now is fits (c.loop-fact.invariant.notes is fits has) common
      ((c.loop-fact.invariant.known is fits has common).waits c.in-Some.fact c.in-Some.ensures.taken.waited) (c.loop-fact.invariant.noted is fits has common)
      (all_none c.args.program.now c.args.outside.now c.args.tables.now _ c.clear.ensures.items)).notes;
  known = λ is fits has common.
      known_on c.args.program.now c.args.outside.now c.args.tables.now c.loop-fact.facts c.next.new.self c.add_all-in-Some.new.self c.in-Some.fact c.follow.new.out.items (c.loop-fact.invariant.known is fits has common) c.in-Some.ensures.takes c.in-Some.ensures.taken
      c.in_ok-add_all-2.ensures.goes (subst (λ l. WaitsAmong c.next.new.self c.add_all-in-Some.new.self l) c.as_slice-in-Some.ensures.value c.in_ok-add_all-2.ensures.from)
      (c.in_ok-follow.ensures.reached c.args.outside.now is fits (c.loop-fact.invariant.notes is fits has) common
      ((c.loop-fact.invariant.known is fits has common).waits c.in-Some.fact c.in-Some.ensures.taken.waited) (c.loop-fact.invariant.noted is fits has common)
      (all_none c.args.program.now c.args.outside.now c.args.tables.now _ c.clear.ensures.items)).facts;
}

pub returns-clause-closed : goal.returns-clause-closed
returns-clause-closed c = λ is fits common. closed_then c.args.program.now c.args.outside.now c.args.tables.now c.loop-fact.notes c.loop-fact.facts c.next.new.self (c.loop-fact.invariant.follows is fits common) c.in_default.ensures.takes

pub returns-clause-least : goal.returns-clause-least
returns-clause-least c = λ is fits has common. known_ends c.args.program.now c.args.outside.now c.args.tables.now c.loop-fact.facts c.next.new.self (c.loop-fact.invariant.known is fits has common) c.in_default.ensures.takes c.next.ensures.rest
