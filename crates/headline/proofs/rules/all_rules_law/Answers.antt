use Rattle.headline.proofs.Optimised.{silent_named, optimised_shows, optimised_sound, optimised_reached, optimised_folded, optimised_bound, optimised_loosened, optimised_quiet, optimised_skips, optimised_dead, optimised_fresh, optimised_packed, optimised_stays}
use Rattle.headline.proofs.rules.all_rules_law.Goals as goal

pub returns-clause-silenced : goal.returns-clause-silenced
returns-clause-silenced c = λ p r origins h o advisers spared rounds before after formed resolved acyclic whole done. silent_named p h formed resolved acyclic whole o done.admitted done.silenced done.silent

pub returns-clause-shown : goal.returns-clause-shown
returns-clause-shown c = λ p r origins h o advisers spared rounds before after formed resolved acyclic whole types done none.
    optimised_shows p h formed resolved acyclic whole o types r origins advisers spared rounds before after done none

pub returns-clause-sound : goal.returns-clause-sound
returns-clause-sound c = λ p r origins h o advisers spared rounds before after formed resolved acyclic whole types done.
    optimised_sound p h formed resolved acyclic whole o types r origins advisers spared rounds before after done

pub returns-clause-reached : goal.returns-clause-reached
returns-clause-reached c = λ p r origins h o advisers spared rounds before after formed resolved acyclic whole types done allowed.
    optimised_reached p h formed resolved acyclic whole o types r origins advisers spared rounds before after done allowed

pub returns-clause-folded : goal.returns-clause-folded
returns-clause-folded c = λ p r origins h o advisers spared rounds before after formed resolved acyclic whole types done.
    optimised_folded p h formed resolved acyclic whole o types r origins advisers spared rounds before after done

pub returns-clause-bound : goal.returns-clause-bound
returns-clause-bound c = λ p r origins h o advisers spared rounds before after formed resolved acyclic whole types done.
    optimised_bound p h formed resolved acyclic whole o types r origins advisers spared rounds before after done

pub returns-clause-loosened : goal.returns-clause-loosened
returns-clause-loosened c = λ p r origins h o advisers spared rounds before after formed resolved acyclic whole types done.
    optimised_loosened p h formed resolved acyclic whole o types r origins advisers spared rounds before after done

pub returns-clause-quiet : goal.returns-clause-quiet
returns-clause-quiet c = λ p r origins h o advisers spared rounds before after formed resolved acyclic whole types done.
    optimised_quiet p h formed resolved acyclic whole o types r origins advisers spared rounds before after done

pub returns-clause-skips : goal.returns-clause-skips
returns-clause-skips c = λ p r origins h o advisers spared rounds before after formed resolved acyclic whole types done.
    optimised_skips p h formed resolved acyclic whole o types r origins advisers spared rounds before after done

pub returns-clause-dead : goal.returns-clause-dead
returns-clause-dead c = λ p r origins h o advisers spared rounds before after formed resolved acyclic whole types done.
    optimised_dead p h formed resolved acyclic whole o types r origins advisers spared rounds before after done

pub returns-clause-fresh : goal.returns-clause-fresh
returns-clause-fresh c = λ p r origins h o advisers spared rounds before after formed resolved acyclic whole types done narrow.
    optimised_fresh p h formed resolved acyclic whole o types r origins advisers spared rounds before after done narrow

pub returns-clause-packed : goal.returns-clause-packed
returns-clause-packed c = λ p r origins h o advisers spared rounds before after formed resolved acyclic whole types done narrow.
    optimised_packed p h formed resolved acyclic whole o types r origins advisers spared rounds before after done narrow

pub returns-clause-stays : goal.returns-clause-stays
returns-clause-stays c = λ p r origins h o advisers spared rounds before after formed resolved acyclic whole types done.
    optimised_stays p h formed resolved acyclic whole o types r origins advisers spared rounds before after done
