-- Effects that are alike are so the other way round.
use Rattle.std.specs.Prelude.{ℕ}
use Rattle.insn_set.specs.Widths.{is_wide_item}
use Rattle.insn_set.specs.declared.ops.Item.{Item}
use Rattle.insn_set.specs.declared.ops.Item.TheVariants as item
use Rattle.dalvik_defs.specs.declared.state.Value.{Value}
use Rattle.dalvik_defs.specs.declared.state.Frame.{Frame}
use Rattle.dalvik_defs.specs.Effect.{Effect, write_item, next}
use Rattle.dalvik_defs.specs.declared.forms.Form.{Form}
use Rattle.program_laws.specs.Alike.{Only, Plain, Accepts, Alike, Going, Faulting, Throwing, Giving, Calling, Making, Reading, Writing, Locking, Unlocking, Sticking}

pub accepts_item : (x : Form) (w t : ℕ → ℕ) (f g : Frame) (G : Frame → Frame → Type 0) → Accepts x w t f g G → (i : Item) (to : ℕ) (y : Value) → Plain x → Only x (is_wide_item i) to
    → G (next (write_item i f to y)) (next (write_item i g (w to) y))
accepts_item x w t f g G a item.Wide to y c o = a.two c to _ _ o
accepts_item x w t f g G a i to y c o = a.one c to y o

-- the other way round
pub alike_back : (x : Form) (f g : Frame) (G : Frame → Frame → Type 0) (d e : Effect) → Alike x f g G d e → Alike x g f (λ a b. G b a) e d
alike_back x f g G _ _ (Going w f1 g1 h) = Going w g1 f1 h
alike_back x f g G _ _ (Faulting c h) = Faulting c h
alike_back x f g G _ _ (Throwing v h) = Throwing v h
alike_back x f g G _ _ (Giving v h) = Giving v h
alike_back x f g G _ _ (Calling k m vs h c j l n) = Calling k m vs h c j l n
alike_back x f g G _ _ (Making to to' k h c n) = Making to' to k h c n
alike_back x f g G _ _ (Reading i to to' k on h c j n) = Reading i to' to k on h c j n
alike_back x f g G _ _ (Writing k on v h c n) = Writing k on v h c n
alike_back x f g G _ _ (Locking v n) = Locking v n
alike_back x f g G _ _ (Unlocking v n) = Unlocking v n
alike_back x f g G _ _ Sticking = Sticking
