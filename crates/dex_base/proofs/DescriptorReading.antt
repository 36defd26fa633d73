-- Where no descriptor is read, the unit that the fault names is the first that can't continue one.
use Rattle.std.proofs.Common.{◌≡◌, ℕ, zero, suc, ◌+◌, ◌<◌, ◌≤◌, true, List, [], ◌∷◌, ◌++◌, length, take, drop, Option, Some, None, Result, Ok, Err, refl, sym, ap, subst, ◌∙◌, arith}
use Rattle.std.proofs.lemmas.List.{take-append-drop}
use Rattle.dex_base.specs.declared.fault.BaseFault.{BaseFault}
use Rattle.dex_base.specs.declared.fault.BaseFault.TheVariants.{BadDescriptor}
use Rattle.dex_base.specs.declared.descriptor.Descriptor.{Descriptor}
use Rattle.dex_base.specs.declared.descriptor.Descriptor.TheVariants.{Void, Primitive, Class, Array}
use Rattle.dex_base.specs.declared.descriptor.Spot.{Spot}
use Rattle.dex_base.specs.declared.descriptor.Spot.TheVariants.{Element, Name, Inside, Low, End}
use Rattle.dex_base.specs.Decides.{Decides}
use Rattle.dex_base.specs.Descriptor.{is_alone, of_depth, next_spot, ended, go_on, ends_in, descriptor_of}
use Rattle.dex_base.specs.Grammar.{IsDescriptor, BeginsDescriptor, BadDescriptorIn, Wrong, Early}
use Rattle.dex_base.proofs.Decides.{ok_is, err_is, not_both}
use Rattle.dex_base.proofs.Names.{EndsWell, well_step, same_tail, bracket_letter, name_alone, inside_end, low_second, descriptor_found, descriptor_again}

-- from each spot on some text ends well
record Completes (spot : Spot) : Type 0 where
  pub rest : List ℕ
  pub kind : Descriptor
  pub well : EndsWell spot rest kind

inside_done : (depth : ℕ) → EndsWell (Inside depth) (59 ∷ []) (of_depth depth Class)
inside_done depth = well_step (Inside depth) (End (of_depth depth Class)) 59 [] (of_depth depth Class) (inside_end depth) refl

element_done : (depth : ℕ) → EndsWell (Element depth) (73 ∷ []) (of_depth depth (Primitive 73))
element_done depth = well_step (Element depth) (End (of_depth depth (Primitive 73))) 73 [] (of_depth depth (Primitive 73)) (bracket_letter depth 73 refl) refl

is_a : is_alone 97 ≡ true
unfolding is_alone
is_a = refl

name_done : (depth : ℕ) → EndsWell (Name depth) (97 ∷ 59 ∷ []) (of_depth depth Class)
name_done depth = well_step (Name depth) (Inside depth) 97 (59 ∷ []) (of_depth depth Class) (name_alone depth 97 is_a) (inside_done depth)

low_done : (depth : ℕ) → EndsWell (Low depth) (56320 ∷ 59 ∷ []) (of_depth depth Class)
low_done depth = well_step (Low depth) (Inside depth) 56320 (59 ∷ []) (of_depth depth Class) (low_second depth 56320 refl) (inside_done depth)

completes : (spot : Spot) → Completes spot
completes (Element depth) = record { rest = 73 ∷ []; kind = of_depth depth (Primitive 73); well = element_done depth }
completes (Name depth) = record { rest = 97 ∷ 59 ∷ []; kind = of_depth depth Class; well = name_done depth }
completes (Inside depth) = record { rest = 59 ∷ []; kind = of_depth depth Class; well = inside_done depth }
completes (Low depth) = record { rest = 56320 ∷ 59 ∷ []; kind = of_depth depth Class; well = low_done depth }
completes (End kind) = record { rest = []; kind = kind; well = refl }

-- why a text does not end well from a spot on
data Stuck (place : ℕ) (spot : Spot) (text : List ℕ) (e : BaseFault) : Type 0 where
  StuckAt : (behind : ℕ) (rest : List ℕ) (kind : Descriptor) → behind < length text → EndsWell spot (take behind text ++ rest) kind
      → ((more : List ℕ) (other : Descriptor) → EndsWell spot (take (suc behind) text ++ more) other → ⊥) → e ≡ BadDescriptor (place + behind) → Stuck place spot text e
  StuckEnd : (rest : List ℕ) (kind : Descriptor) → 0 < length rest → EndsWell spot (text ++ rest) kind → e ≡ BadDescriptor (place + length text) → Stuck place spot text e

stuck_end : (place : ℕ) (spot : Spot) (e : BaseFault) → ended place spot ≡ Err e → Stuck place spot [] e
stuck_end place (Element depth) e h = StuckEnd (73 ∷ []) _ (omega arith) (element_done depth) (sym (err_is (BadDescriptor place) e h) ∙ ap BadDescriptor (omega arith))
stuck_end place (Name depth) e h = StuckEnd (97 ∷ 59 ∷ []) _ (omega arith) (name_done depth) (sym (err_is (BadDescriptor place) e h) ∙ ap BadDescriptor (omega arith))
stuck_end place (Inside depth) e h = StuckEnd (59 ∷ []) _ (omega arith) (inside_done depth) (sym (err_is (BadDescriptor place) e h) ∙ ap BadDescriptor (omega arith))
stuck_end place (Low depth) e h = StuckEnd (56320 ∷ 59 ∷ []) _ (omega arith) (low_done depth) (sym (err_is (BadDescriptor place) e h) ∙ ap BadDescriptor (omega arith))
stuck_end place (End kind) e h = absurd (not_both e kind (sym h))

-- behind a unit that continues
stuck_behind : (place : ℕ) (spot next : Spot) (u : ℕ) (us : List ℕ) (e : BaseFault) → next_spot spot u ≡ Some next → Stuck (suc place) next us e → Stuck place spot (u ∷ us) e
stuck_behind place spot next u us e at (StuckAt behind rest kind inside well none is) =
    StuckAt (suc behind) rest kind (omega arith) (well_step spot next u (take behind us ++ rest) kind at well)
    (λ more other h. none more other (well_unstep spot next u (take (suc behind) us ++ more) other at h))
    (is ∙ ap BadDescriptor (omega arith))
  where
    well_unstep : (spot next : Spot) (u : ℕ) (us : List ℕ) (kind : Descriptor) → next_spot spot u ≡ Some next → EndsWell spot (u ∷ us) kind → EndsWell next us kind
    well_unstep spot next u us kind at h = same_tail 1 0 next us kind (rw at at h)
stuck_behind place spot next u us e at (StuckEnd rest kind some well is) =
    StuckEnd rest kind some (well_step spot next u (us ++ rest) kind at well) (is ∙ ap BadDescriptor (omega arith))

stuck_here : (place : ℕ) (spot : Spot) (u : ℕ) (us : List ℕ) (e : BaseFault) → next_spot spot u ≡ None → go_on place None (λ next. ends_in (suc place) next us) ≡ Err e → Stuck place spot (u ∷ us) e
stuck_here place spot u us e at h =
    let c = completes spot in
    StuckAt 0 c.rest c.kind (omega arith) c.well (λ more other well. not_both (BadDescriptor 0) other (rw at at well)) (sym (err_is (BadDescriptor place) e h) ∙ ap BadDescriptor (omega arith))

stuck_step : (place : ℕ) (spot : Spot) (u : ℕ) (us : List ℕ) (e : BaseFault) (next : Option Spot) → next_spot spot u ≡ next → go_on place next (λ n. ends_in (suc place) n us) ≡ Err e
    → ((n : Spot) → ends_in (suc place) n us ≡ Err e → Stuck (suc place) n us e) → Stuck place spot (u ∷ us) e
stuck_step place spot u us e (Some next) at h behind = stuck_behind place spot next u us e at (behind next h)
stuck_step place spot u us e None at h behind = stuck_here place spot u us e at h

is_stuck : (place : ℕ) (spot : Spot) (text : List ℕ) (e : BaseFault) → ends_in place spot text ≡ Err e → Stuck place spot text e
is_stuck place spot [] e h = stuck_end place spot e h
is_stuck place spot (u ∷ us) e h = stuck_step place spot u us e (next_spot spot u) refl h (λ n more. is_stuck (suc place) n us e more)

end_stops : (k : Descriptor) (m : ℕ) (more : List ℕ) (other : Descriptor) → EndsWell (End k) (m ∷ more) other → ⊥
unfolding next_spot
end_stops k m more other h = not_both (BadDescriptor 0) other h

none_step : (spot : Spot) (u : ℕ) (us more : List ℕ) (kind other : Descriptor) (next : Option Spot) → next_spot spot u ≡ next
    → go_on 0 next (λ n. ends_in 1 n us) ≡ Ok kind → go_on 0 next (λ n. ends_in 1 n (us ++ more)) ≡ Ok other → ((n : Spot) → EndsWell n us kind → EndsWell n (us ++ more) other → more ≡ []) → more ≡ []
none_step spot u us more kind other (Some next) at well longer behind = behind next (same_tail 1 0 next us kind well) (same_tail 1 0 next (us ++ more) other longer)
none_step spot u us more kind other None at well longer behind = absurd (not_both (BadDescriptor 0) kind well)

found : (text : List ℕ) (kind : Descriptor) → EndsWell (Element 0) text kind → IsDescriptor text kind
unfolding descriptor_of
found text kind well = descriptor_found text kind well

again : (text : List ℕ) (kind : Descriptor) → IsDescriptor text kind → EndsWell (Element 0) text kind
unfolding descriptor_of
again text kind is = descriptor_again text kind is

-- behind the end of a descriptor there is nothing
none_behind : (spot : Spot) (text more : List ℕ) (kind other : Descriptor) → EndsWell spot text kind → EndsWell spot (text ++ more) other → more ≡ []
none_behind (Element depth) [] more kind other well longer = absurd (not_both (BadDescriptor 0) kind well)
none_behind (Name depth) [] more kind other well longer = absurd (not_both (BadDescriptor 0) kind well)
none_behind (Inside depth) [] more kind other well longer = absurd (not_both (BadDescriptor 0) kind well)
none_behind (Low depth) [] more kind other well longer = absurd (not_both (BadDescriptor 0) kind well)
none_behind (End k) [] [] kind other well longer = refl
none_behind (End k) [] (m ∷ more) kind other well longer = absurd (end_stops k m more other longer)
none_behind spot (u ∷ us) more kind other well longer =
    none_step spot u us more kind other (next_spot spot u) refl well longer (λ next w l. none_behind next us more kind other w l)

fault_in : (text : List ℕ) (e : BaseFault) → Stuck 0 (Element 0) text e → BadDescriptorIn text e
fault_in text e (StuckAt behind rest kind inside well none is) =
    Wrong behind inside (record { rest = rest; kind = kind; is = found (take behind text ++ rest) kind well }) (λ b. none b.rest b.kind (again (take (suc behind) text ++ b.rest) b.kind b.is)) (is ∙ ap BadDescriptor (omega arith))
fault_in text e (StuckEnd rest kind some well is) = Early rest kind some (found (text ++ rest) kind well) (is ∙ ap BadDescriptor (omega arith))

clean_in : (text : List ℕ) (kind : Descriptor) (e : BaseFault) → IsDescriptor text kind → BadDescriptorIn text e → ⊥
clean_in text kind e is (Wrong place inside begins none at) =
    none (record { rest = drop (suc place) text; kind = kind; is = subst (λ (xs : List ℕ). IsDescriptor xs kind) (sym (take-append-drop (suc place) text)) is })
clean_in text kind e is (Early rest other some longer at) =
    omega (arith, some, ap length (none_behind (Element 0) text rest kind other (again text kind is) (again (text ++ rest) other longer)))

pub is_descriptor : (text : List ℕ) → Decides (IsDescriptor text) (BadDescriptorIn text) (descriptor_of text)
unfolding descriptor_of
is_descriptor text = record {
  found = descriptor_found text;
  again = descriptor_again text;
  fault = λ e h. fault_in text e (is_stuck 0 (Element 0) text e h);
  clean = λ kind e h b. clean_in text kind e (descriptor_found text kind h) b;
}
