use Rattle.headline.proofs.Inlined.{inlined_shows, inlined_sound, inlined_reached, inlined_folded, inlined_bound, inlined_loosened, inlined_quiet, inlined_skips, inlined_dead, inlined_fresh, inlined_packed, inlined_stays}
use Rattle.headline.proofs.rules.all_rules_inlined_law.Goals as goal

pub returns-clause-shown : goal.returns-clause-shown
returns-clause-shown c = λ p r origins h o olds news spared rounds before after formed resolved acyclic whole types done shuts.
    inlined_shows p h formed resolved acyclic whole o types r origins olds news spared rounds before after done shuts

pub returns-clause-sound : goal.returns-clause-sound
returns-clause-sound c = λ p r origins h o olds news spared rounds before after formed resolved acyclic whole types done.
    inlined_sound p h formed resolved acyclic whole o types r origins olds news spared rounds before after done

pub returns-clause-reached : goal.returns-clause-reached
returns-clause-reached c = λ p r origins h o olds news spared rounds before after formed resolved acyclic whole types done allowed.
    inlined_reached p h formed resolved acyclic whole o types r origins olds news spared rounds before after done allowed

pub returns-clause-folded : goal.returns-clause-folded
returns-clause-folded c = λ p r origins h o olds news spared rounds before after formed resolved acyclic whole types done.
    inlined_folded p h formed resolved acyclic whole o types r origins olds news spared rounds before after done

pub returns-clause-bound : goal.returns-clause-bound
returns-clause-bound c = λ p r origins h o olds news spared rounds before after formed resolved acyclic whole types done.
    inlined_bound p h formed resolved acyclic whole o types r origins olds news spared rounds before after done

pub returns-clause-loosened : goal.returns-clause-loosened
returns-clause-loosened c = λ p r origins h o olds news spared rounds before after formed resolved acyclic whole types done.
    inlined_loosened p h formed resolved acyclic whole o types r origins olds news spared rounds before after done

pub returns-clause-quiet : goal.returns-clause-quiet
returns-clause-quiet c = λ p r origins h o olds news spared rounds before after formed resolved acyclic whole types done.
    inlined_quiet p h formed resolved acyclic whole o types r origins olds news spared rounds before after done

pub returns-clause-skips : goal.returns-clause-skips
returns-clause-skips c = λ p r origins h o olds news spared rounds before after formed resolved acyclic whole types done.
    inlined_skips p h formed resolved acyclic whole o types r origins olds news spared rounds before after done

pub returns-clause-dead : goal.returns-clause-dead
returns-clause-dead c = λ p r origins h o olds news spared rounds before after formed resolved acyclic whole types done.
    inlined_dead p h formed resolved acyclic whole o types r origins olds news spared rounds before after done

pub returns-clause-fresh : goal.returns-clause-fresh
returns-clause-fresh c = λ p r origins h o olds news spared rounds before after formed resolved acyclic whole types done narrow.
    inlined_fresh p h formed resolved acyclic whole o types r origins olds news spared rounds before after done narrow

pub returns-clause-packed : goal.returns-clause-packed
returns-clause-packed c = λ p r origins h o olds news spared rounds before after formed resolved acyclic whole types done narrow.
    inlined_packed p h formed resolved acyclic whole o types r origins olds news spared rounds before after done narrow

pub returns-clause-stays : goal.returns-clause-stays
returns-clause-stays c = λ p r origins h o olds news spared rounds before after formed resolved acyclic whole types done.
    inlined_stays p h formed resolved acyclic whole o types r origins olds news spared rounds before after done
