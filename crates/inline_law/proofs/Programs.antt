-- A program with accepted calls inlined shows the same.
use Rattle.std.proofs.Common.{◌≡◌, ℕ, ◌≤◌, List, [], ◌∷◌, refl, sym, ap, ◌∙◌, subst, arith}
use Rattle.std.specs.Prelude.{Option, Some, None, map}
use Rattle.std.specs.Option.{option_map}
use Rattle.dalvik_defs.specs.Face.{Bodies, face_of, bodies_of}
use Rattle.dalvik_defs.specs.Outer.{Outer}
use Rattle.dalvik_defs.specs.Quiet.{quiet_within, calm_opening}
use Rattle.dalvik_defs.specs.Shown.{Fit, SameShown}
use Rattle.dalvik_defs.specs.State.{State}
use Rattle.dalvik_defs.specs.Step.{setting_of}
use Rattle.dalvik_defs.specs.declared.names.MethodKey.{MethodKey}
use Rattle.dalvik_defs.specs.declared.forms.Form.{Form}
use Rattle.dalvik_defs.specs.declared.forms.Form.TheVariants as form
use Rattle.dalvik_defs.specs.declared.script.Move.{Move}
use Rattle.dalvik_defs.specs.declared.program.NamedBody.{NamedBody}
use Rattle.dalvik_defs.specs.declared.program.NamedMethod.{NamedMethod}
use Rattle.dalvik_defs.specs.declared.program.NamedProgram.{NamedProgram}
use Rattle.dalvik_defs.specs.declared.tables.Framework.{Framework}
use Rattle.dalvik_defs.specs.declared.tables.Floats.{Floats}
use Rattle.pass_defs.specs.Inlined.{Callee, inlined}
use Rattle.pass_defs.specs.Remade.{remade}
use Rattle.pass_defs.specs.Walks.{form_at}
use Rattle.program_laws.specs.Results.{TakesInPlace}
use Rattle.program_laws.specs.Others.{OtherBodies}
use Rattle.program_laws.proofs.Faces.{others_face}
use Rattle.program_laws.proofs.Found.{others_found}
use Rattle.inline_law.specs.Inlining.{Went, Past, Stood, IsInlined, AreInlined, Neither, Both}
use Rattle.inline_law.specs.Entered.{AreEnterable, FactsHold, AcceptedIn, sites_in, sites_of}
use Rattle.inline_law.specs.Programs.{Inlines, NoCode, Same, Inlined, IsInlining}
use Rattle.inline_law.proofs.Meets.{inlined_is}
use Rattle.inline_law.proofs.Entering.{facts_shown}

-- ---- a body that stays as it is

map_same : (l : List ℕ) → map (λ r. r) l ≡ l
map_same [] = refl
map_same (x ∷ xs) = ap (λ l. x ∷ l) (map_same xs)

form_same : (x : Form) → remade (λ r. r) (λ r. r) (λ n. n) x ≡ x
form_same (form.FilledNewArray kind args) = ap (form.FilledNewArray kind) (map_same args)
form_same (form.PackedSwitch on first targets) = ap (form.PackedSwitch on first) (map_same targets)
form_same (form.SparseSwitch on keys targets) = ap (form.SparseSwitch on keys) (map_same targets)
form_same (form.Invoke kind method args) = ap (form.Invoke kind method) (map_same args)
form_same x = refl

handler_same : (o : Option ℕ) → option_map (λ n. n) o ≡ o
handler_same None = refl
handler_same (Some n) = refl

pub unchanged : (find : Bodies) (need : MethodKey → ℕ → ℕ → Type 0) (k : MethodKey) (sites : ℕ → Option Callee) (b : NamedBody) → ((n : ℕ) → sites n ≡ None) → TakesInPlace b → b.ins ≤ b.registers → IsInlined find need k sites b b
unchanged find need k sites b none h room = record {
  at = λ n. n;
  up = λ r. r;
  shift = 0;
  ups = λ r. omega arith;
  registers = omega arith;
  ins = refl;
  room = room;
  entry = refl;
  in_place = h;
  went = λ n r l. subst (λ c. Went find need k b b (λ n. n) (λ r. r) 0 n (form_at b n) c) (sym (none n)) (by n (form_at b n) refl);
}
  where
    by : (n : ℕ) (o : Option Form) → form_at b n ≡ o → Went find need k b b (λ n. n) (λ r. r) 0 n o None
    by n None e = Past e
    by n (Some x) e = Stood x (e ∙ ap Some (sym (form_same x))) refl (λ t above. sym (handler_same _))

-- ---- the law for programs

module _ (p q : NamedProgram) (need : MethodKey → ℕ → ℕ → Type 0) (accepted : AcceptedIn) (h : IsInlining p need accepted) (others : OtherBodies (Inlines p accepted) p q) where
  abbrev Here : MethodKey → List ℕ → Option NamedBody → NamedBody → NamedBody → Type 0
  Here k l o = IsInlined (bodies_of p) need k (sites_in p l o)

  -- of the code that look-ups find, with the accepted calls of its method
  here_by : (k : MethodKey) (l : List ℕ) (b c : NamedBody) → bodies_of p k ≡ Some b → accepted k ≡ l → Here k l (Some b) b c → Here k (accepted k) (bodies_of p k) b c
  here_by k l b c e d i = subst (λ o. Here k (accepted k) o b c) (sym e) (subst (λ l. Here k l (Some b) b c) (sym d) i)

  each_body : (k : MethodKey) (o o' : Option NamedBody) → bodies_of p k ≡ o → Inlines p accepted k o o' → AreInlined (bodies_of p) need k (sites_of p accepted k) o o'
  each_body k _ _ e NoCode = Neither
  each_body k _ _ e (Same b d) = Both b b (here_by k [] b b e d (unchanged (bodies_of p) need k (sites_in p [] (Some b)) b (λ n. refl) (h.in_place k b e) (h.room k b e)))
  each_body k _ _ e (Inlined m b n ns d) = Both b (inlined p k m b (n ∷ ns)) (here_by k (n ∷ ns) b (inlined p k m b (n ∷ ns)) e d (inlined_is p k m b (n ∷ ns) (bodies_of p) (bodies_of q) need (h.accepts k b n ns e d)))

  pub inlining_shown : (o : Outer) (level : ℕ) (I : Framework → Floats → List Move → State → Type 0)
      → ((f : Framework) → AreEnterable (face_of p f) (bodies_of p) (quiet_within (face_of p f) level) (sites_of p accepted))
      → ((f : Framework) (a : Floats) (script : List Move) → Fit p o f script → FactsHold (setting_of p o f a) (bodies_of p) (sites_of p accepted) (I f a script) × I f a script (calm_opening (quiet_within (face_of p f) level) script))
      → SameShown p q o
  inlining_shown o level I enterable facts = facts_shown p q o need (sites_of p accepted) level I (λ f. sym (others_face (Inlines p accepted) p q others f))
      (λ k. each_body k (bodies_of p k) (bodies_of q k) refl (others_found (Inlines p accepted) (λ k. NoCode) p q others k)) enterable facts
