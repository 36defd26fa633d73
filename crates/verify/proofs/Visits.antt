-- What a visit of a position does to the flow.
use Rattle.std.proofs.Common.{◌≡◌, ℕ, List, length, Option, Some, None, ◌∙◌}
use Rattle.std.specs.Prelude.{All}
use Rattle.std.proofs.lemmas.List.{length-replicate}
use Rattle.insn_set.specs.declared.form.Insn.{Insn}
use Rattle.program_model.specs.declared.body.Body.{Body}
use Rattle.verify.specs.declared.kinds.Kind.{Kind}
use Rattle.verify.specs.declared.kinds.Kind.TheVariants as kind
use Rattle.verify.specs.declared.setting.Setting.{Setting}
use Rattle.verify.specs.Faults.{fault_of}
use Rattle.verify.specs.Flow.{next_of, Flowing, region_of, thrown_from, gone_on, gone, form_after, followed_by, followed}
use Rattle.verify.specs.Frames.{Kinds, all_undefined}
use Rattle.verify.specs.Typings.{Table, Arrives, onward_by, catches_by, unless_fault, carried, carried_to}
use Rattle.verify.proofs.Arrives.{Stands, stands_on}
use Rattle.verify.proofs.Reaches.{Onward, gone_reaches}
use Rattle.verify.proofs.Throws.{IsThrown, of_null, of_nothing, AreThrown, Follows, follows_on, follows_as, follows_arrivals, Caught, follows_throw}
use Rattle.verify.proofs.Wide.{form_after_long}

-- what a position sends along its edges has arrived
pub record Sent (s : Setting) (b : Body) (cs : List (Option ℕ)) (n : ℕ) (i : Insn) (a : Kinds) (y : Table) : Type 0 where
  pub onward : All (λ q. Arrives s.tables.now y q (carried s b n i a)) (onward_by i (next_of n))
  pub caught : All (λ h. Arrives s.tables.now y h.0 (carried_to s b n i a h.1)) (catches_by s.tables.now b i (region_of cs n))

module _ (s : Setting) (b : Body) (cs : List (Option ℕ)) (n : ℕ) (i : Insn) (a : Kinds) (f : Flowing)
    (st : Stands b.registers f.arrivals) (z : AreThrown b.registers f.regions) (long : length f.regions ≡ length b.regions) (width : length a.registers ≡ b.registers) where
  -- frames before the form go to the handlers, and those after it go on
  follows_with : (k : Kind) (x y : Kinds) → IsThrown k → length x.registers ≡ b.registers → length y.registers ≡ b.registers
      → Follows s.tables.now b.registers b (λ v. Onward s.tables.now i (next_of n) y v × Caught s.tables.now b i (region_of cs n) (record x { caught = k }) v) f (gone s.tables.now n i y (thrown_from s.tables.now b cs n i k x f))
  follows_with k x y is wx wy =
      let g = thrown_from s.tables.now b cs n i k x f in
      let first = follows_throw s.tables.now b.registers b cs n i k x f st z long wx is in
      let second = follows_arrivals s.tables.now b.registers b (Onward s.tables.now i (next_of n) y) g (gone_on s.tables.now n i y g.arrivals) first.thrown (gone_reaches s.tables.now b.registers n i y g.arrivals (stands_on s.tables.now b.registers f.arrivals g.arrivals st first.grows) wy) in
      follows_on s.tables.now b.registers b (Caught s.tables.now b i (region_of cs n) (record x { caught = k })) (Onward s.tables.now i (next_of n) y) (λ v. Onward s.tables.now i (next_of n) y v × Caught s.tables.now b i (region_of cs n) (record x { caught = k }) v) f g (gone s.tables.now n i y g)
      (λ v p q. (q, p)) (λ v p. p.1) (λ v p. p.0) first second

  abbrev SentBy : Option ℕ → Table → Type 0
  SentBy o v = Onward s.tables.now i (next_of n) (unless_fault o b (form_after s n i a)) v × All (λ h. Arrives s.tables.now v h.0 (unless_fault o b (record a { caught = h.1 }))) (catches_by s.tables.now b i (region_of cs n))

  follows_if : (o : Option ℕ) → Follows s.tables.now b.registers b (SentBy o) f (followed_by s b cs n i a f o)
  follows_if None = follows_with kind.Null a (form_after s n i a) of_null width (form_after_long s n i a ∙ width)
  follows_if (Some r) = follows_with kind.Undefined (all_undefined b.registers) (all_undefined b.registers) of_nothing (length-replicate b.registers kind.Undefined) (length-replicate b.registers kind.Undefined)

  pub follows_form : Follows s.tables.now b.registers b (Sent s b cs n i a) f (followed s b cs n i a f)
  follows_form = follows_as s.tables.now b.registers b (SentBy (fault_of s n a i)) (Sent s b cs n i a) f (followed s b cs n i a f)
      (λ v p. record { onward = p.0; caught = p.1 }) (λ v p. (p.onward, p.caught)) (follows_if (fault_of s n a i))
