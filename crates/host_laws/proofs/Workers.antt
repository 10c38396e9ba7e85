-- The isolates of a scene by their numbers; past the last one stands one that was never at work.
use Rattle.std.proofs.Common.{◌≡◌, ◌≢◌, ℕ, suc, zero, ◌+◌, ◌<◌, ◌≤◌, List, [], ◌∷◌, length, Some, refl, subst, sym, ap, ◌∙◌, arith, inl, inr, slice_get, slice_index_or, slice_set}
use Rattle.std.proofs.lemmas.Bool.{cases_eq}
use Rattle.std.proofs.lemmas.List.{get_or-set_same, get_or-set_other, get_or_past}
use Rattle.std.proofs.lemmas.Option.{get_or_from_slice_get}
use Rattle.host_syntax.specs.declared.script.HostScript.{HostScript}
use Rattle.host_syntax.specs.declared.script.IsolateDecl.{IsolateDecl}
use Rattle.host_meaning.specs.Stand.{Stand}
use Rattle.host_meaning.specs.Course.{Worker, Scene, idle, all_idle}
use Rattle.host_meaning.specs.Lawful.{LimitIs}

abbrev pub scene_with : Stand → List Worker → Scene
scene_with stand workers = record { stand = stand; workers = workers }

abbrev pub worker_at : List Worker → ℕ → Worker
worker_at workers i = slice_index_or workers i (idle i 0)

abbrev pub limit_at : List IsolateDecl → ℕ → ℕ
limit_at [] i = 0
limit_at (decl ∷ decls) zero = decl.limit
limit_at (decl ∷ decls) (suc i) = limit_at decls i

-- ---- limits

limit_by : (decls : List IsolateDecl) (i : ℕ) (decl : IsolateDecl) → slice_get decls i ≡ Some decl → limit_at decls i ≡ decl.limit
limit_by [] i decl at = cc
limit_by (d ∷ decls) zero decl at = let same : d ≡ decl = cc in ap (λ (x : IsolateDecl). x.limit) same
limit_by (d ∷ decls) (suc i) decl at = limit_by decls i decl at

pub limit_is : (script : HostScript) (i limit : ℕ) → LimitIs script i limit → limit_at script.isolates i ≡ limit
limit_is script i limit is = limit_by script.isolates i is.0 is.1 ∙ is.2

-- ---- the beginning

idle_from : (decls : List IsolateDecl) (n i m : ℕ) → m ≡ n + i → slice_index_or (all_idle n decls) i (idle m 0) ≡ idle m (limit_at decls i)
idle_from [] n i m e = refl
idle_from (decl ∷ decls) n zero m e = let same : n ≡ m = grind (arith, e) in ap (λ x. idle x decl.limit) same
idle_from (decl ∷ decls) n (suc i) m e = idle_from decls (n + 1) i m (grind (arith, e))

pub idle_at : (decls : List IsolateDecl) (i : ℕ) → worker_at (all_idle 0 decls) i ≡ idle i (limit_at decls i)
idle_at decls i = idle_from decls 0 i i (grind arith)

pub count_idle : (decls : List IsolateDecl) (n : ℕ) → length (all_idle n decls) ≡ length decls
count_idle [] n = refl
count_idle (decl ∷ decls) n = ap suc (count_idle decls (n + 1))

-- ---- one of them

pub worker_is : (workers : List Worker) (i : ℕ) (worker : Worker) → slice_get workers i ≡ Some worker → worker_at workers i ≡ worker
worker_is workers i worker at = get_or_from_slice_get workers i worker (idle i 0) at

get_by : (xs : List Worker) (k : ℕ) (d : Worker) → k < length xs → slice_get xs k ≡ Some (slice_index_or xs k d)
get_by [] k d l = absurd (grind (arith, l))
get_by (x ∷ xs) zero d l = refl
get_by (x ∷ xs) (suc k) d l = get_by xs k d (grind (arith, l))

pub get_within : (workers : List Worker) (i : ℕ) → i < length workers → slice_get workers i ≡ Some (worker_at workers i)
get_within workers i l = get_by workers i (idle i 0) l

pub worker_past : (workers : List Worker) (i : ℕ) → length workers ≤ i → worker_at workers i ≡ idle i 0
worker_past workers i l = get_or_past workers i (idle i 0) l

pub get_set : (workers : List Worker) (i : ℕ) (new : Worker) → i < length workers → slice_get (slice_set workers i new) i ≡ Some new
get_set [] i new l = absurd (grind (arith, l))
get_set (x ∷ workers) zero new l = refl
get_set (x ∷ workers) (suc i) new l = get_set workers i new (grind (arith, l))

-- what holds of each after one has changed
pub each_set : (P : ℕ → Worker → Type 0) (workers : List Worker) (i : ℕ) (new : Worker) → i < length workers → P i new → ((j : ℕ) → j ≢ i → P j (worker_at workers j))
    → (j : ℕ) → P j (worker_at (slice_set workers i new) j)
each_set P workers i new l here there j =
    elim (cases_eq j i) as (λ x. P j (worker_at (slice_set workers i new) j)) [
      | inl same ↦ subst (λ k. P k (worker_at (slice_set workers i new) k)) (sym same) (subst (P i) (sym (get_or-set_same workers i new (idle i 0) l)) here)
      | inr other ↦ subst (P j) (sym (get_or-set_other workers i j new (idle j 0) other)) (there j other)
    ]
