-- `encode_long_sequence`: its segments are encodable, and their values are the run.
use mathlib.Core.Path.{◌≡◌, refl, ap, ◌∙◌}
use mathlib.Core.Logic.{inl, inr, ⊎_elim}
use mathlib.Core.List.{append-nil}
use Prim.Native.Nat.{ℕ, zero, suc, ◌+◌, ◌*◌, ◌-◌, ◌/◌, ◌%◌, ◌≤◌, ◌<◌}
use native.Mathlib.Omega.{arith}
use borrow.Author.Tests.{le-leb, lt-leb}
use lib.ListN.{replicate, length-replicate, replicate-append-replicate}
use Rattle.rle_format.specs.Pack.{rest_of_run, runs_of47, long_run}
use Rattle.rle_format.proofs.Cases.{le_or_gt}
use Rattle.rle_format.proofs.Segments.{segments_values, AllEncodable}

pub replicate_cong : (a b v : ℕ) → a ≡ b → replicate a v ≡ replicate b v
replicate_cong a b v e = ap (λ (k : ℕ). replicate k v) e

rest_of_run_encodable : (last left : ℕ) → left ≤ 46 → AllEncodable (rest_of_run last left)
rest_of_run_encodable last left h =
    ⊎_elim
    (λ (a : 16 ≤ left). rw (le-leb 16 left a) (inr (refl, omega arith, omega arith), tt))
    (λ (a : left < 16). rw (lt-leb 16 left a)
    (⊎_elim
    (λ (b : 4 ≤ left). rw (le-leb 4 left b) (inl (omega arith), tt))
    (λ (b : left < 4). rw (lt-leb 4 left b)
    (⊎_elim
    (λ (c : 1 ≤ left). rw (le-leb 1 left c) (let e = length-replicate left last in (inl (omega arith), tt)))
    (λ (c : left < 1). rw (lt-leb 1 left c) tt)
    (le_or_gt 1 left)))
    (le_or_gt 4 left)))
    (le_or_gt 16 left)

rest_of_run_values : (last left : ℕ) → segments_values last (rest_of_run last left) ≡ replicate left last
rest_of_run_values last left =
    ⊎_elim
    (λ (a : 16 ≤ left). rw (le-leb 16 left a) (append-nil (replicate left last)))
    (λ (a : left < 16). rw (lt-leb 16 left a)
    (⊎_elim
    (λ (b : 4 ≤ left). rw (le-leb 4 left b, append-nil (replicate (left - 1) last)) (replicate_cong (suc (left - 1)) left last (omega arith)))
    (λ (b : left < 4). rw (lt-leb 4 left b)
    (⊎_elim
    (λ (c : 1 ≤ left). rw (le-leb 1 left c) (simp append-nil))
    (λ (c : left < 1). rw (lt-leb 1 left c) (replicate_cong 0 left last (omega arith)))
    (le_or_gt 1 left)))
    (le_or_gt 4 left)))
    (le_or_gt 16 left)

runs_of47_encodable : (k last left : ℕ) → left ≤ 46 → AllEncodable (runs_of47 k last left)
runs_of47_encodable zero last left h = rest_of_run_encodable last left h
runs_of47_encodable (suc k) last left h = (inr (refl, omega arith, omega arith), runs_of47_encodable k last left h)

runs_of47_values : (k last left : ℕ) → segments_values last (runs_of47 k last left) ≡ replicate (47 * k + left) last
runs_of47_values zero last left = rest_of_run_values last left ∙ replicate_cong left (47 * 0 + left) last (omega arith)
runs_of47_values (suc k) last left =
    rw (runs_of47_values k last left)
    (replicate-append-replicate 47 (47 * k + left) last ∙ replicate_cong (47 + (47 * k + left)) (47 * suc k + left) last (omega arith))

pub long_run_encodable : (last run : ℕ) → AllEncodable (long_run last run)
unfolding long_run
long_run_encodable last run = runs_of47_encodable (run / 47) last (run % 47) (omega arith)

pub long_run_values : (last run : ℕ) → segments_values last (long_run last run) ≡ replicate run last
unfolding long_run
long_run_values last run = runs_of47_values (run / 47) last (run % 47) ∙ replicate_cong (47 * (run / 47) + run % 47) run last (omega arith)
