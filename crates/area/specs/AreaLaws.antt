-- The layout goes by n and l alone, and nothing in it wraps: a section has less than 2^32 bytes.
use Rattle.std.specs.Prelude.{◌≡◌, refl, ◌≢◌}
use Prim.Native.Nat.{ℕ, zero, suc, ◌+◌, ◌-◌, ◌*◌, ◌≤◌, ◌<◌}
use Rattle.std.proofs.Common.{mul-le-mul, add-one}
use native.Mathlib.Omega.{arith}
use Rattle.share.specs.Layout.{record_len, RECORD_MOST, record-most}
use Rattle.plan.specs.Plan.{InRange, bucket_size, leaky, bits_count, dm_len}
use Rattle.plan.specs.PlanLaws.{leaky-most, bits_most, bucket-high}
use Rattle.engine.specs.declared.Frame.{Frame}
use Rattle.engine.specs.Area.{off, Every, every-at}
use Rattle.rounds.specs.Area.{SECTIONS, leaky_len, sizes, size_of}

-- ---- bounds
module _ (f : Frame) (r : InRange f.n f.l) where
  abbrev n : ℕ
  n = f.n

  abbrev l : ℕ
  l = f.l

  pub by-party : (x : ℕ) {m : ℕ} → x ≤ m → n * x ≤ 8 * m
  by-party x h = mul-le-mul r.eight h

  pub by-leaky : (x : ℕ) {m : ℕ} → x ≤ m → leaky l * x ≤ 1500000 * m
  by-leaky x h = mul-le-mul (leaky-most l r.most) h

  pub by_result : (x : ℕ) {m : ℕ} → x ≤ m → l * x ≤ 300000 * m
  by_result x h = mul-le-mul r.most h

  pub by_bit : (x : ℕ) {m : ℕ} → x ≤ m → bits_count l * x ≤ 4500160 * m
  by_bit x h = mul-le-mul (bits_most l r.most) h

  pub record-at-most : record_len n ≤ RECORD_MOST
  record-at-most = record-most n r.eight

  pub dm-at-most : dm_len n ≤ 113
  unfolding dm_len
  dm-at-most = omega (arith, r.eight)

  pub row-at-most : leaky_len n ≤ 176
  unfolding leaky_len
  row-at-most = omega (arith, r.eight)

  abbrev Small : ℕ → Type 0
  Small x = x ≤ 2000000000

  small : Every Small (sizes f)
  unfolding sizes
  small =
      let m = leaky-most l r.most in
      let e = r.eight in (
        omega arith,
        (
          omega arith,
          (
            omega arith,
            (
              omega (arith, by-party (leaky l) m),
              (
                omega (arith, by_bit (record_len n) record-at-most),
                (
                  omega (arith, by_result (record_len n) record-at-most),
                  (
                    omega (arith, by_result (record_len n) record-at-most),
                    (
                      omega arith,
                      (
                        omega arith,
                        (
                          omega arith,
                          (
                            omega arith,
                            (
                              omega arith,
                              (
                                omega arith,
                                (
                                  omega (arith, by-party (40 * dm_len n) (mul-le-mul (let h : 40 ≤ 40 = omega arith in h) dm-at-most)),
                                  (
                                    omega (arith, by-leaky (leaky_len n) row-at-most),
                                    (
                                      omega arith,
                                      (
                                        omega (arith, by-party (leaky l) m),
                                        (
                                          omega arith,
                                          (
                                            omega (arith, by-party (leaky l * 32) (mul-le-mul m (let h : 32 ≤ 32 = omega arith in h))),
                                            (
                                              omega arith,
                                              (
                                                omega (arith, by_result (bucket_size l - 1) (let h : bucket_size l - 1 ≤ 4 = omega (arith, bucket-high l) in h)),
                                                (
                                                  omega (arith, by_result (2 * record_len n) (let h : 2 * record_len n ≤ 2 * RECORD_MOST = omega (arith, record-at-most) in h)),
                                                  (
                                                    omega arith,
                                                    (
                                                      omega arith,
                                                      tt,
                                                    ),
                                                  ),
                                                ),
                                              ),
                                            ),
                                          ),
                                        ),
                                      ),
                                    ),
                                  ),
                                ),
                              ),
                            ),
                          ),
                        ),
                      ),
                    ),
                  ),
                ),
              ),
            ),
          ),
        ),
      )

  pub size-most : (s : ℕ) → s < SECTIONS → size_of f s ≤ 2000000000
  unfolding size_of sizes
  size-most s h = every-at Small (sizes f) 0 small s h

  pub off-most : (s : ℕ) → s ≤ SECTIONS → off (size_of f) s ≤ s * 2000000000
  unfolding off
  off-most zero h = omega arith
  off-most (suc s) h = omega (arith, off-most s (omega arith), size-most s h)

-- a turn of the sum
pub off-turn : (size : ℕ → ℕ) (k at x : ℕ) → at ≡ off size k → x ≡ size k → at + x ≡ off size (k + 1)
unfolding off
off-turn size k at x h e = rw (h, e, add-one k) refl

-- the numbers below a, one after another ruled out
pub above : (s a : ℕ) → a ≤ s → s ≢ a → suc a ≤ s
above s a h ne = omega arith
