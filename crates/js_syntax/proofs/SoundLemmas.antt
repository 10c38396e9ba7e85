-- What holds of each node, and of one more.
use Rattle.std.proofs.Common.{◌≡◌, ℕ, zero, suc, ◌+◌, List, [], ◌∷◌, ◌++◌, length, Some, slice_get, subst, arith}
use Rattle.js_syntax.specs.declared.node.Node.{Node}
use Rattle.js_syntax.specs.Shape.{AreBelow, AreSoundFrom, IsFormed}

pub sound_more : (k : ℕ) (nodes : List Node) (node : Node) → AreSoundFrom k nodes → AreBelow (node.kids) (k + length nodes) → IsFormed node → AreSoundFrom k (nodes ++ node ∷ [])
sound_more k [] node sound below formed = (subst (AreBelow (node.kids)) (omega arith) below, formed, tt)
sound_more k (n ∷ nodes) node sound below formed =
    (sound.0, sound.1, sound_more (k + 1) nodes node sound.2 (subst (AreBelow (node.kids)) (omega arith) below) formed)

pub sound_at : (k : ℕ) (nodes : List Node) (i : ℕ) (node : Node) → AreSoundFrom k nodes → slice_get nodes i ≡ Some node → AreBelow (node.kids) (k + i) × IsFormed node
sound_at k [] zero node sound here = absurd (let none : ⊥ = cc in none)
sound_at k [] (suc i) node sound here = absurd (let none : ⊥ = cc in none)
sound_at k (n ∷ nodes) zero node sound here =
    let same : n ≡ node = cc in
    subst (λ (m : Node). AreBelow (m.kids) (k + 0) × IsFormed m) same (subst (AreBelow (n.kids)) (omega arith) sound.0, sound.1)
sound_at k (n ∷ nodes) (suc i) node sound here =
    let later = sound_at (k + 1) nodes i node sound.2 here in
    (subst (AreBelow (node.kids)) (omega arith) later.0, later.1)
