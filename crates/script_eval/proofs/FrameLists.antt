-- Waiting forms stay sound: as the store grows, and as one of them is put on the others or taken off.
use Rattle.std.proofs.Common.{◌≡◌, ◌<◌, ◌+◌, ◌-◌, ◌⊎◌, inl, inr, ℕ, List, [], ◌∷◌, ◌++◌, length, arith, length-append, subst, sym}
use Rattle.std.specs.Prelude.{slice_index_or}
use Rattle.std.specs.List.{All}
use Rattle.std.proofs.lemmas.List.{get_or_append_left, get_or-append-add}
use Rattle.std.proofs.lemmas.List.Elements.{All-nil, All-cons, All-append}
use Rattle.charged_heap.specs.Growth.{Grows}
use Rattle.charged_heap.specs.Store.{Store}
use Rattle.script_meaning.specs.Places.{ScriptList}
use Rattle.script_steps.proofs.Growing.{frame_grows}
use Rattle.script_steps.specs.Fits.{FrameFits}
use Rattle.script_steps.specs.Sound.{IsSoundFrame}
use Rattle.script_steps.specs.declared.frame.Frame.{Frame}
use Rattle.script_steps.specs.declared.frame.Step.{Step}
use Rattle.script_eval.specs.Machines.{AreSoundFrames}
use Rattle.script_eval.specs.Weight.{IsEnded}

frames_none : (scripts : ScriptList) (s : Store) → AreSoundFrames scripts s []
frames_none scripts s = record {
  each = All-nil (IsSoundFrame s);
  fit = All-nil (FrameFits scripts);
  most = omega arith;
}

pub frames_begin : (scripts : ScriptList) (s : Store) (fs : List Frame) → fs ≡ [] → AreSoundFrames scripts s fs
frames_begin scripts s fs none = subst (AreSoundFrames scripts s) (sym none) (frames_none scripts s)

pub frames_grow : (scripts : ScriptList) (s t : Store) (fs : List Frame) → Grows s t → AreSoundFrames scripts s fs → AreSoundFrames scripts t fs
frames_grow scripts s t fs grows sound = record {
  each = λ k d within. frame_grows s t (slice_index_or fs k d) grows (sound.each k d within);
  fit = sound.fit;
  most = sound.most;
}

pub frames_push : (scripts : ScriptList) (s : Store) (fs : List Frame) (f : Frame) → AreSoundFrames scripts s fs → IsSoundFrame s f
    → FrameFits scripts f → length fs < 256 → AreSoundFrames scripts s (fs ++ f ∷ [])
frames_push scripts s fs f sound one fits few = record {
  each = All-append (IsSoundFrame s) fs (f ∷ []) sound.each (All-cons (IsSoundFrame s) f [] one (All-nil (IsSoundFrame s)));
  fit = All-append (FrameFits scripts) fs (f ∷ []) sound.fit (All-cons (FrameFits scripts) f [] fits (All-nil (FrameFits scripts)));
  most = omega (arith, length-append fs (f ∷ []));
}

-- what holds of all holds of those before the last, and of the last
all_before : (P : Frame → Type 0) (fs : List Frame) (f : Frame) → All P (fs ++ f ∷ []) → All P fs
all_before P fs f all = λ k d within.
    let within' : k < length (fs ++ f ∷ []) = omega (arith, length-append fs (f ∷ [])) in
    let here : P (slice_index_or (fs ++ f ∷ []) k d) = all k d within' in
    subst P (get_or_append_left fs (f ∷ []) d k within) here

of_last : (P : Frame → Type 0) (fs : List Frame) (f : Frame) → All P (fs ++ f ∷ []) → P f
of_last P fs f all =
    let within : length fs + 0 < length (fs ++ f ∷ []) = omega (arith, length-append fs (f ∷ [])) in
    let here : P (slice_index_or (fs ++ f ∷ []) (length fs + 0) f) = all (length fs + 0) f within in
    subst P (get_or-append-add fs (f ∷ []) 0 f) here

pub frames_fewer : (scripts : ScriptList) (s : Store) (fs : List Frame) (f : Frame) → AreSoundFrames scripts s (fs ++ f ∷ []) → AreSoundFrames scripts s fs
frames_fewer scripts s fs f sound = record {
  each = all_before (IsSoundFrame s) fs f sound.each;
  fit = all_before (FrameFits scripts) fs f sound.fit;
  most = omega (arith, sound.most, length-append fs (f ∷ []));
}

pub frame_last : (scripts : ScriptList) (s : Store) (fs : List Frame) (f : Frame) → AreSoundFrames scripts s (fs ++ f ∷ []) → IsSoundFrame s f
frame_last scripts s fs f sound = of_last (IsSoundFrame s) fs f sound.each

pub last_fits : (scripts : ScriptList) (s : Store) (fs : List Frame) (f : Frame) → AreSoundFrames scripts s (fs ++ f ∷ []) → FrameFits scripts f
last_fits scripts s fs f sound = of_last (FrameFits scripts) fs f sound.fit

pub fewer_than : (scripts : ScriptList) (s : Store) (fs : List Frame) (f : Frame) → AreSoundFrames scripts s (fs ++ f ∷ []) → length fs < 256
fewer_than scripts s fs f sound = omega (arith, sound.most, length-append fs (f ∷ []))

-- the others, once the last was taken off and the store has grown
pub frames_after : (scripts : ScriptList) (s t : Store) (all fs : List Frame) (f : Frame) → all ≡ fs ++ f ∷ [] → Grows s t
    → AreSoundFrames scripts s all → AreSoundFrames scripts t fs
frames_after scripts s t all fs f is grows sound =
    frames_grow scripts s t fs grows (frames_fewer scripts s fs f (subst (AreSoundFrames scripts s) is sound))

-- and the last is sound itself
pub frame_taken : (scripts : ScriptList) (s : Store) (all fs : List Frame) (f : Frame) → all ≡ fs ++ f ∷ [] → AreSoundFrames scripts s all
    → IsSoundFrame s f
frame_taken scripts s all fs f is sound = frame_last scripts s fs f (subst (AreSoundFrames scripts s) is sound)

-- a step that lets a form wait finds room for it
pub room_found : (step : Step) (fs : List Frame) (room : ℕ) → room ≡ 256 - length fs → IsEnded step ⊎ (0 < room) → IsEnded step ⊎ (length fs < 256)
room_found step fs room is (inl ended) = inl ended
room_found step fs room is (inr there) = inr (omega arith)

pub ruleset frame_lists = (frames_begin, frames_grow, frames_push, frames_fewer, frame_last, last_fits, fewer_than, room_found)
