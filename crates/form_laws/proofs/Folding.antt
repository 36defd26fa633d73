-- A program in which forms that are known are replaced shows the same.
use Rattle.std.proofs.Common.{◌≡◌, ℕ, ◌+◌, ◌-◌, ◌<◌, Bool, true, false, List, [], ◌∷◌, Some, refl, sym, ap, ap₂, ◌∙◌, subst, subst₂, inl, inr, arith}
use Rattle.std.specs.Prelude.{◌⊎◌, map, ◌++◌, replicate, slice_index_or}
use Rattle.insn_set.specs.declared.ops.Slot.TheVariants as slot
use Rattle.dalvik_defs.specs.Names.{Text}
use Rattle.dalvik_defs.specs.Act.{act}
use Rattle.dalvik_defs.specs.Effect.{register}
use Rattle.dalvik_defs.specs.Face.{Bodies, bodies_of}
use Rattle.dalvik_defs.specs.Outer.{Outer}
use Rattle.dalvik_defs.specs.State.{World, Classes, State, On}
use Rattle.dalvik_defs.specs.declared.state.Value.{Value}
use Rattle.dalvik_defs.specs.declared.state.Value.TheVariants.{Word}
use Rattle.dalvik_defs.specs.declared.state.Frame.{Frame}
use Rattle.dalvik_defs.specs.declared.state.Waiting.{Waiting}
use Rattle.dalvik_defs.specs.declared.state.Waiting.TheVariants.{Method}
use Rattle.dalvik_defs.specs.Stack.{entry_frame}
use Rattle.dalvik_defs.specs.Happens.{Setting}
use Rattle.dalvik_defs.specs.Step.{setting_of}
use Rattle.dalvik_defs.specs.Shown.{Fit, SameShown}
use Rattle.dalvik_defs.specs.declared.names.MethodKey.{MethodKey}
use Rattle.dalvik_defs.specs.declared.forms.Form.{Form}
use Rattle.dalvik_defs.specs.declared.forms.Form.TheVariants as form
use Rattle.dalvik_defs.specs.declared.script.Move.{Move}
use Rattle.dalvik_defs.specs.declared.program.NamedBody.{NamedBody}
use Rattle.dalvik_defs.specs.declared.program.NamedProgram.{NamedProgram}
use Rattle.dalvik_defs.specs.declared.tables.Framework.{Framework}
use Rattle.dalvik_defs.specs.declared.tables.Floats.{Floats}
use Rattle.dalvik_defs.proofs.Calm.{IsCalm}
use Rattle.pass_defs.specs.Bare.{reads, writes}
use Rattle.pass_defs.specs.Remade.{remade}
use Rattle.pass_defs.specs.Walks.{form_at, onward}
use Rattle.program_laws.specs.Bodies.{Change, changed}
use Rattle.program_laws.proofs.ChangedFaces.{face_same}
use Rattle.form_laws.specs.Changes.{In, destination, TakesPair, Alike}
use Rattle.form_laws.proofs.Forms.{form_law}
use Rattle.form_laws.proofs.Uses.{or_right, same_reads, writes_at, writes_from}
use Rattle.form_laws.specs.Rewriting.{Claims, frame_size, Holds, Comes, Writes, Keeps, Settles, Fits, IsInPlace}
use Rattle.form_laws.specs.Solid.{IsSolid, AllSolid}
use Rattle.form_laws.proofs.Onward.{clash}
use Rattle.form_laws.proofs.Bodies.{replaced, some_replaced, none_replaced}
use Rattle.form_laws.proofs.Programs.{in_place_shown}
use Rattle.form_laws.specs.Known.{Becomes, Same, Folds, IsFolded, AllFolded}

-- a form with its own registers
same_list : (xs : List ℕ) → map (λ x. x) xs ≡ xs
same_list [] = refl
same_list (x ∷ xs) = ap (λ l. x ∷ l) (same_list xs)

pub itself : (f : Form) → remade (λ r. r) (λ r. r) (λ t. t) f ≡ f
itself (form.FilledNewArray kind args) = ap (form.FilledNewArray kind) (same_list args)
itself (form.PackedSwitch on first targets) = ap (form.PackedSwitch on first) (same_list targets)
itself (form.SparseSwitch on keys targets) = ap (form.SparseSwitch on keys) (same_list targets)
itself (form.Invoke kind method args) = ap (form.Invoke kind method) (same_list args)
itself f = refl

pub own_pair : (f : Form) → TakesPair (λ r. r) f
own_pair (form.Move slot.Wide to from) = refl
own_pair f = tt

module _ (s : Setting) (find other : Bodies) (I : State → Type 0) where
  abbrev R : Claims
  R k n o x = x ≡ o

  module _ (k : MethodKey) (b d : NamedBody) (e : find k ≡ Some b) (e' : other k ≡ Some d) (folded : IsFolded s I k b d) (solid : IsSolid b) where
    module _ (n : ℕ) (f f' : Form) (x : form_at b n ≡ Some f) (fold : Becomes s I k n f f') where
      place : destination f' ≡ destination f
      place = by fold
        where
          by : Becomes s I k n f f' → destination f' ≡ destination f
          by (Same z) = ap destination z
          by (Folds a) = a.place

      comes : (m o y : ℕ) → In m (onward f n) → R k m o y → Comes R k n f f' o y
      comes m o y i z = by (writes f o) refl
        where
          by : (v : Bool) → writes f o ≡ v → Comes R k n f f' o y
          by true j = let w = writes_from f o j in Writes (record { place = w.0; below = w.1.0; old = w.1.1; new = z ∙ w.1.1 ∙ ap (λ q. q + w.0) (sym place) })
          by false j = Keeps (record {
            old = λ a lt i. clash (writes f o) (ap (writes f) i ∙ writes_at f a lt) j;
            new = λ a lt i. clash (writes f o) (ap (writes f) (sym z ∙ i ∙ ap (λ q. q + a) place) ∙ writes_at f a lt) j;
          }) z

      pub fits : Fits s find other R I k b n f f'
      fits = record {
        alike = λ w c g g' rest script h i j ig. by w c g g' rest script h i j ig fold;
        room = λ i lt. let u = solid.room n f (destination f + i) x (or_right (reads f (destination f + i)) (writes f (destination f + i)) (writes_at f i lt)) in
            let v : destination f' + i < d.registers = subst₂ (λ y z. y + i < z) (sym place) (sym folded.registers) u in
            (subst (λ o. destination f + i < frame_size o) (sym e) (omega (arith, u)), subst (λ o. destination f' + i < frame_size o) (sym e') (omega (arith, v)));
        onward = comes;
        caught = λ m o y i z. z;
      }
        where
          by : (w : World) (c : Classes) (g g' : Frame) (rest : List Waiting) (script : List Move) → Holds find other R g g' → g.method ≡ k → g.position ≡ n → I (On w c (Method g ∷ rest) script)
              → Becomes s I k n f f' → Alike (λ m. m) f f' g g' (act s.face.under s.floats f w g) (act s.face.under s.floats f' w g') ⊎ Settles s f f' w c g g'
          by w c g g' rest script h i j ig (Same z) = inl (subst (λ q. Alike (λ m. m) f q g g' (act s.face.under s.floats f w g) (act s.face.under s.floats q w g')) (itself f ∙ sym z)
              (form_law s.face.under s.floats (λ r. r) (λ r. r) (λ t. t) f w g g' h.result h.caught
              (same_reads (λ r. r) (λ r. r) (λ t. t) g g' f (λ r a. h.registers r r refl) (own_pair f))))
          by w c g g' rest script h i j ig (Folds a) = inr (record { change = a.change; first = a.old w c g rest script ig i j; second = a.new w g'; possible = a.possible })

    pub entry : (vs : List Value) (o y : ℕ) → y ≡ o → register (entry_frame k vs d) y ≡ register (entry_frame k vs b) o
    entry vs o y z = ap₂ (λ l y. slice_index_or l y (Word 0)) (ap₂ (λ y z. replicate (y - z) (Word 0) ++ vs) folded.registers folded.ins) z

module _ (p : NamedProgram) (new : Change) (o : Outer) (calm : Framework → Text → Bool) (I : Framework → Floats → List Move → State → Type 0) (all : AllFolded new p o calm I) (solid : AllSolid p) where
  abbrev find : Bodies
  find = bodies_of p

  abbrev other : Bodies
  other = bodies_of (changed new p)

  solid_in : (k : MethodKey) (b : NamedBody) → find k ≡ Some b → IsSolid b
  solid_in k b e = let r = replaced new p k b e in solid r.class r.method b r.in_program r.in_class r.body

  in_place : (f : Framework) (a : Floats) (script : List Move) → Fit p o f script → IsInPlace (setting_of p o f a) find other (λ k n o x. x ≡ o) (I f a script)
  in_place f a script h = record {
    none = none_replaced new p all.code;
    some = some_replaced new p all.code;
    ins = λ k b d e e'. (all.bodies f a script h k b d e e').ins;
    regions = λ k b d e e'. (all.bodies f a script h k b d e e').regions;
    fields = λ k b e. (solid_in k b e).fields;
    ends = λ k b d n e e' x. (all.bodies f a script h k b d e e').ends n x;
    forms = λ k b d n g e e' r x. let z = all.bodies f a script h k b d e e' in let q = z.forms n g x r in
        (q.0, (q.1.0, fits (setting_of p o f a) find other (I f a script) k b d e e' z (solid_in k b e) n g q.0 x q.1.1));
    entry = λ k b d vs o1 y e e' l z. entry (setting_of p o f a) find other (I f a script) k b d e e' (all.bodies f a script h k b d e e') (solid_in k b e) vs o1 y z;
    keeps = all.keeps f a script h;
  }

  -- a program whose known forms are replaced shows the same, in runs that begin with the calm classes done
  pub folded_shown : ((f : Framework) (a : Floats) → IsCalm (setting_of p o f a) (calm f)) → SameShown p (changed new p) o
  folded_shown is = in_place_shown p (changed new p) o calm (λ k n o x. x ≡ o) I (λ f. sym (face_same new p all.code f)) is in_place all.begins

no_calm : (s : Setting) → IsCalm s (λ t. false)
no_calm s = record { initialiser = λ t e. clash false e refl; grounded = λ t e. clash false e refl }

pub folded_always : (p : NamedProgram) (new : Change) (o : Outer) (I : Framework → Floats → List Move → State → Type 0) → AllFolded new p o (λ f t. false) I → AllSolid p → SameShown p (changed new p) o
folded_always p new o I all solid = folded_shown p new o (λ f t. false) I all solid (λ f a. no_calm (setting_of p o f a))
