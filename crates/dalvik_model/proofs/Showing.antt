-- What a run shows in one step more.
use Rattle.std.proofs.Common.{◌≡◌, ℕ, zero, suc, ◌+◌, ◌≤◌, List, [], ◌∷◌, ◌++◌, length, length-append, arith, ap, refl, sym, subst, ◌∙◌}
use Rattle.std.specs.Prelude.{Option, Some, None}
use Rattle.std.proofs.lemmas.List.{append-nil, append_assoc}
use Rattle.dalvik_defs.specs.Face.{Bodies}
use Rattle.dalvik_defs.specs.Happens.{Setting}
use Rattle.dalvik_defs.specs.State.{State, opening}
use Rattle.dalvik_defs.specs.Step.{after, events_of, shows_from, step}
use Rattle.dalvik_defs.specs.declared.events.Event.{Event}
use Rattle.dalvik_model.specs.Standing.{bodies_for, setting_for, HasShown, IsAt, IsAtNext, Subject}
use Rattle.dalvik_model.specs.declared.machine.Machine.{Machine}

pub after_next : (s : Setting) (find : Bodies) (t : State) (n : ℕ) → after s find t (suc n) ≡ (step s find (after s find t n)).0
after_next s find t zero = refl
after_next s find t (suc n) = after_next s find (step s find t).0 n

pub shows_next : (s : Setting) (find : Bodies) (t : State) (n : ℕ) → shows_from s find t (suc n) ≡ shows_from s find t n ++ events_of (step s find (after s find t n)).1
shows_next s find t zero = append-nil (events_of (step s find t).1)
shows_next s find t (suc n) =
    ap (λ (es : List Event). events_of (step s find t).1 ++ es) (shows_next s find (step s find t).0 n)
    ∙ sym (append_assoc (events_of (step s find t).1) (shows_from s find (step s find t).0 n) (events_of (step s find (after s find (step s find t).0 n)).1))

-- a machine makes one step more
pub has_next : (s : Subject) (n : ℕ) (m m' : Machine) (events : List Event) (e : Option Event) → HasShown s n m events → IsAtNext s m' e (after (setting_for s) (bodies_for s) (opening s.script) n) → HasShown s (n + 1) m' (events ++ events_of e)
has_next s n m m' events e h next =
    let more : n + 1 ≡ suc n = omega arith in
    subst (λ (k : ℕ). HasShown s k m' (events ++ events_of e)) (sym more) (record {
      at = subst (IsAt s m') (sym (after_next (setting_for s) (bodies_for s) (opening s.script) n)) next.at;
      are =
          ap (λ (es : List Event). es ++ events_of e) h.are
          ∙ ap (λ (o : Option Event). shows_from (setting_for s) (bodies_for s) (opening s.script) n ++ events_of o) next.shown
          ∙ sym (shows_next (setting_for s) (bodies_for s) (opening s.script) n);
    })

-- the list of the events grows so
pub few_more : (xs ys : List Event) (e : Option Event) → ys ≡ xs ++ events_of e → length ys ≤ length xs + 1
few_more xs ys None is = let long = ap length is in let both = length-append xs [] in omega (arith, long, both)
few_more xs ys (Some e) is = let long = ap length is in let both = length-append xs (e ∷ []) in omega (arith, long, both)

pub none_more : (xs ys : List Event) (e : Option Event) → ys ≡ xs ++ events_of e → e ≡ None → xs ≡ [] → ys ≡ []
none_more xs ys e is none empty = is ∙ (λ i. empty i ++ events_of (none i))
