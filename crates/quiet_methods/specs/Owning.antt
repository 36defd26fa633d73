-- What is known of the code of each method number by itself.
use Rattle.std.specs.Prelude.{◌≡◌, ◌<◌, ℕ, true, false, List, [], length, flat_map, Option, Some, slice_index_or, Contains}
use Rattle.program_model.specs.declared.body.Body.{Body}
use Rattle.program_model.specs.declared.program.Class.{Class}
use Rattle.program_model.specs.declared.program.Method.{Method}
use Rattle.program_model.specs.declared.program.Program.{Program}
use Rattle.dom_frame.specs.declared.frames.Frame.{Frame}
use Rattle.quiet_methods.specs.declared.ranks.Node.{Node}
use Rattle.quiet_methods.specs.Bodies.{IsOwn}
use Rattle.quiet_methods.specs.Quiet.{frames_of, ranks_of}

abbrev pub methods_of : List Class → List Method
methods_of classes = flat_map (λ c. c.methods) classes

-- a node that has no rank
abbrev pub no_node : Node
no_node = record { may = false; needs = [] }

abbrev pub node_in : List Node → ℕ → Node
node_in nodes k = slice_index_or nodes k no_node

-- a method with code has the number, and what is known by itself is of its code
pub record IsEntry (p : Program) (frames : List (List (Option Frame))) (done : List Method) (nodes : List Node) (ranks : List (List (Option ℕ))) (k : ℕ) : Type 0 where
  pub method : Method
  pub body : Body
  pub in_done : Contains done method
  pub coded : method.body ≡ Some body
  pub name : method.name ≡ k
  pub own : IsOwn p body.insns (frames_of frames k) (node_in nodes k) (ranks_of ranks k)

-- what is known when these methods were asked
pub record AreOwns (p : Program) (frames : List (List (Option Frame))) (done : List Method) (nodes : List Node) (ranks : List (List (Option ℕ))) : Type 0 where
  pub nodes_long : length nodes ≡ length p.methods
  pub ranks_long : length ranks ≡ length p.methods
  pub entry : (m : Method) (b : Body) → Contains done m → m.body ≡ Some b → m.name < length p.methods → IsEntry p frames done nodes ranks m.name
  pub only : (k : ℕ) → (node_in nodes k).may ≡ true → IsEntry p frames done nodes ranks k
