-- Registers behind writes.
use Rattle.std.proofs.Common.{◌≡◌, ℕ, zero, suc, ◌+◌, ◌<◌, List, [], ◌∷◌, length, refl, sym, ◌∙◌, subst, arith}
use Rattle.std.specs.Prelude.{slice_index_or}
use Rattle.std.proofs.lemmas.List.{get_or-set_same, get_or-set_other, length-set}
use Rattle.dalvik_defs.specs.declared.state.Value.{Value}
use Rattle.dalvik_defs.specs.declared.state.Value.TheVariants.{Word}
use Rattle.dalvik_defs.specs.declared.state.Frame.{Frame}
use Rattle.dalvik_defs.specs.Effect.{register, write}
use Rattle.form_laws.specs.Changes.{written}

pub written_method : (vs : List Value) (to : ℕ) (g : Frame) → (written vs to g).method ≡ g.method
written_method [] to g = refl
written_method (v ∷ vs) to g = written_method vs (to + 1) (write g to v)

pub written_position : (vs : List Value) (to : ℕ) (g : Frame) → (written vs to g).position ≡ g.position
written_position [] to g = refl
written_position (v ∷ vs) to g = written_position vs (to + 1) (write g to v)

pub written_result : (vs : List Value) (to : ℕ) (g : Frame) → (written vs to g).result ≡ g.result
written_result [] to g = refl
written_result (v ∷ vs) to g = written_result vs (to + 1) (write g to v)

pub written_caught : (vs : List Value) (to : ℕ) (g : Frame) → (written vs to g).caught ≡ g.caught
written_caught [] to g = refl
written_caught (v ∷ vs) to g = written_caught vs (to + 1) (write g to v)

pub written_long : (vs : List Value) (to : ℕ) (g : Frame) → length (written vs to g).registers ≡ length g.registers
written_long [] to g = refl
written_long (v ∷ vs) to g = written_long vs (to + 1) (write g to v) ∙ length-set g.registers to v

-- a register that isn't written
pub written_other : (vs : List Value) (to : ℕ) (g : Frame) (o : ℕ) → ((i : ℕ) → i < length vs → o ≡ to + i → ⊥) → register (written vs to g) o ≡ register g o
written_other [] to g o h = refl
written_other (v ∷ vs) to g o h =
    written_other vs (to + 1) (write g to v) o (λ i lt e. h (suc i) (omega (arith, lt)) (omega (arith, e)))
    ∙ get_or-set_other g.registers to o v (Word 0) (λ e. h 0 (omega arith) (omega (arith, e)))

-- one that is
pub written_there : (vs : List Value) (to : ℕ) (g : Frame) (i : ℕ) → i < length vs → to + i < length g.registers → register (written vs to g) (to + i) ≡ slice_index_or vs i (Word 0)
written_there [] to g i lt fit = absurd (omega (arith, lt))
written_there (v ∷ vs) to g zero lt fit =
    let e : to + 0 ≡ to = omega arith in
    let room : to < length g.registers = omega (arith, fit) in
    subst (λ x. register (written vs (to + 1) (write g to v)) x ≡ v) (sym e)
    (written_other vs (to + 1) (write g to v) to (λ j l k. omega (arith, k)) ∙ get_or-set_same g.registers to v (Word 0) room)
written_there (v ∷ vs) to g (suc i) lt fit =
    let e : to + suc i ≡ (to + 1) + i = omega arith in
    let long : length (write g to v).registers ≡ length g.registers = length-set g.registers to v in
    subst (λ x. register (written vs (to + 1) (write g to v)) x ≡ slice_index_or vs i (Word 0)) (sym e)
    (written_there vs (to + 1) (write g to v) i (omega (arith, lt)) (omega (arith, fit, long)))
