-- One rank from levels and ranks.
use Rattle.std.proofs.Common.{◌≡◌, ℕ, ◌+◌, ◌*◌, ◌<◌, Bool, true, List, Option, Some, None, is_some, refl, sym, ap, ◌∙◌, subst, arith}
use Rattle.std.specs.Prelude.{slice_get}
use Rattle.std.specs.Option.{unwrap_or}
use Rattle.std.proofs.lemmas.Bool.{false≢true}
use Rattle.insn_set.specs.declared.form.Insn.{Insn}
use Rattle.program_model.specs.declared.body.Body.{Body}
use Rattle.program_model.specs.declared.program.Method.{Method}
use Rattle.program_model.specs.declared.program.Program.{Program}
use Rattle.dom_frame.specs.declared.frames.Frame.{Frame}
use Rattle.quiet_methods.specs.declared.forms.Demand.TheVariants.{Call}
use Rattle.quiet_methods.specs.Settled.{rank_at, IsLower}
use Rattle.quiet_methods.specs.Bodies.{frame_in, demand_in}
use Rattle.quiet_methods.specs.Quiet.{is_on, frames_of, ranks_of, IsCode, IsMet, IsQuietAt, IsAlone, AreQuiet}
use Rattle.quiet_methods.specs.Falling.{RanksFall}

some_of : (o : Option ℕ) → is_some o ≡ true → (r : ℕ) × (o ≡ Some r)
some_of (Some r) h = (r, refl)
some_of None h = absurd (false≢true h)

-- the level of a marked method
level : (p : Program) (frames : List (List (Option Frame))) (marks : List Bool) (q : AreQuiet p frames marks) (k : ℕ) → is_on marks k ≡ true → (r : ℕ) × (rank_at q.levels k ≡ Some r)
level p frames marks q k on = some_of (rank_at q.levels k) (sym (q.marked k) ∙ on)

value : (o : Option ℕ) (r : ℕ) → o ≡ Some r → unwrap_or o 0 ≡ r
value o r h = ap (λ x. unwrap_or x 0) h

at : (p : Program) (frames : List (List (Option Frame))) (marks : List Bool) (q : AreQuiet p frames marks) (m : Method) (b : Body) → IsCode p m b → IsAlone p m b → (l : ℕ) → rank_at q.levels m.name ≡ Some l
    → (n : ℕ) (i : Insn) → slice_get b.insns n ≡ Some i → IsQuietAt p (frame_in (frames_of frames m.name) n) q.levels l (ranks_of q.ranks m.name) n i
at p frames marks q m b code alone l h n i there = (q.quiet m b l code alone h).forms n i there

called : (p : Program) (frames : List (List (Option Frame))) (marks : List Bool) (q : AreQuiet p frames marks) (m : Method) (l n : ℕ) (i : Insn) (k : ℕ)
    → IsQuietAt p (frame_in (frames_of frames m.name) n) q.levels l (ranks_of q.ranks m.name) n i → demand_in p (frame_in (frames_of frames m.name) n) i ≡ Call k → IsLower q.levels l k
called p frames marks q m l n i k w d = subst (IsMet q.levels l) d w.met

lower_level : (a b r s : ℕ) → a < b → r < 4294967296 → a * 4294967296 + r < b * 4294967296 + s
lower_level a b r s lt short = omega (arith, lt, short)

same_level : (a r s : ℕ) → r < s → a * 4294967296 + r < a * 4294967296 + s
same_level a r s lt = omega (arith, lt)

pub ranks_fall : RanksFall
ranks_fall p frames marks q = record {
  way = λ m b code alone on n i there t leads.
      let l : (r : ℕ) × (rank_at q.levels m.name ≡ Some r) = level p frames marks q m.name on in
      let w : IsQuietAt p (frame_in (frames_of frames m.name) n) q.levels l.0 (ranks_of q.ranks m.name) n i = at p frames marks q m b code alone l.0 l.1 n i there in
      let lower : IsLower (ranks_of q.ranks m.name) w.rank t = w.lower t leads in
      let here : unwrap_or (rank_at (ranks_of q.ranks m.name) n) 0 ≡ w.rank = value (rank_at (ranks_of q.ranks m.name) n) w.rank w.is in
      let next : unwrap_or (rank_at (ranks_of q.ranks m.name) t) 0 ≡ lower.rank = value (rank_at (ranks_of q.ranks m.name) t) lower.rank lower.is in
      same_level (unwrap_or (rank_at q.levels m.name) 0) (unwrap_or (rank_at (ranks_of q.ranks m.name) t) 0) (unwrap_or (rank_at (ranks_of q.ranks m.name) n) 0) (omega (arith, here, next, lower.lower));
  marked = λ m b code alone on n i there k d.
      let l : (r : ℕ) × (rank_at q.levels m.name ≡ Some r) = level p frames marks q m.name on in
      let w : IsQuietAt p (frame_in (frames_of frames m.name) n) q.levels l.0 (ranks_of q.ranks m.name) n i = at p frames marks q m b code alone l.0 l.1 n i there in
      q.marked k ∙ ap is_some (called p frames marks q m l.0 n i k w d).is;
  call = λ m b code alone on n i there m' b' f code' alone' first d.
      let l : (r : ℕ) × (rank_at q.levels m.name ≡ Some r) = level p frames marks q m.name on in
      let w : IsQuietAt p (frame_in (frames_of frames m.name) n) q.levels l.0 (ranks_of q.ranks m.name) n i = at p frames marks q m b code alone l.0 l.1 n i there in
      let c : IsLower q.levels l.0 m'.name = called p frames marks q m l.0 n i m'.name w d in
      let v : IsQuietAt p (frame_in (frames_of frames m'.name) 0) q.levels c.rank (ranks_of q.ranks m'.name) 0 f = at p frames marks q m' b' code' alone' c.rank c.is 0 f first in
      let upper : unwrap_or (rank_at q.levels m.name) 0 ≡ l.0 = value (rank_at q.levels m.name) l.0 l.1 in
      let under : unwrap_or (rank_at q.levels m'.name) 0 ≡ c.rank = value (rank_at q.levels m'.name) c.rank c.is in
      let entry : unwrap_or (rank_at (ranks_of q.ranks m'.name) 0) 0 ≡ v.rank = value (rank_at (ranks_of q.ranks m'.name) 0) v.rank v.is in
      lower_level (unwrap_or (rank_at q.levels m'.name) 0) (unwrap_or (rank_at q.levels m.name) 0) (unwrap_or (rank_at (ranks_of q.ranks m'.name) 0) 0) (unwrap_or (rank_at (ranks_of q.ranks m.name) n) 0)
      (omega (arith, upper, under, c.lower)) (omega (arith, entry, v.short));
}
