-- The samples of a channel: their number, and the index of each.
use mathlib.Core.Path.{◌≡◌, refl, sym, ap, ◌∙◌}
use mathlib.Core.Logic.{⊎_elim}
use mathlib.Core.List.{List, [], ◌∷◌, ◌++◌}
use Prim.Native.Nat.{ℕ, zero, suc, ◌+◌, ◌*◌, ◌-◌, ◌/◌, ◌≤◌, ◌<◌, min}
use native.Mathlib.Omega.{arith}
use lib.ListN.{length, take, drop, get_or, length-append, length-drop, drop_of_length-le, get_or-append}
use lib.Seq.{take_all, take-nil, get_or_at, length-take-le}
use Rattle.rle_format.specs.Slice.{overwrite}
use Rattle.rle_format.proofs.Cases.{le_or_gt}
use Rattle.rle_format.proofs.Slice.{overwrite_nil}
use Rattle.pixel_format.specs.declared.Channel.{Channel}
use Rattle.pixel_format.specs.declared.Layout.{Layout}
use Rattle.pixel_format.specs.declared.Layout.TheVariants.{Planar, Pixels}
use Rattle.pixel_format.specs.declared.PixelLayout.{PixelLayout}
use Rattle.pixel_format.specs.Channel.{ChannelOffsets, channel_offsets, offset_of, strided, channel, samples_of}
use Rattle.pixel_format.proofs.Layouts.{layouts_rearrange}

pub length_strided : (stride offset n : ℕ) (d : List ℕ) → length (strided stride offset n d) ≡ n
unfolding strided
length_strided stride offset zero d = refl
length_strided stride offset (suc n) d =
    omega (arith, length-append (strided stride offset n d) (get_or d (n * stride + offset) 0 ∷ []), length_strided stride offset n d)

-- as many as there are complete pixels
pub length_channel : (p : ChannelOffsets) (c : Channel) (pixels : List ℕ) → length (channel p c pixels) ≡ length pixels / p.stride
unfolding channel
length_channel p c pixels = length_strided p.stride (offset_of p c) (length pixels / p.stride) pixels

-- sample i is in pixel i
pub get_or_strided : (stride offset n : ℕ) (d : List ℕ) (i : ℕ) → i < n → get_or (strided stride offset n d) i 0 ≡ get_or d (i * stride + offset) 0
unfolding strided
get_or_strided stride offset zero d i h = absurd (omega arith)
get_or_strided stride offset (suc n) d i h =
    let len = length_strided stride offset n d in
    ⊎_elim
    (λ (l : i < n). get_or-append (strided stride offset n d) (get_or d (n * stride + offset) 0 ∷ []) 0 i (omega arith) ∙ get_or_strided stride offset n d i l)
    (λ (l : n < suc i).
    let e : i ≡ n = omega arith in
    get_or_at (strided stride offset n d) (get_or d (n * stride + offset) 0) [] 0 i (len ∙ sym e) ∙ ap (λ (k : ℕ). get_or d (k * stride + offset) 0) (sym e))
    (le_or_gt (suc i) n)

-- the byte of sample i in a slice of pixels
pub strided_at : (stride offset n : ℕ) (d : List ℕ) (i k : ℕ) → i < n → k ≡ i * stride + offset → get_or d k 0 ≡ get_or (strided stride offset n d) i 0
strided_at stride offset n d i k h e = ap (λ (m : ℕ). get_or d m 0) e ∙ sym (get_or_strided stride offset n d i h)

-- ---- a read that asks for more samples than there are

-- none are left
pub read_past_end : (d s : List ℕ) (from : ℕ) → length s ≤ from → d ≡ overwrite d (take (length d) (drop from s))
read_past_end d s from h =
    sym (overwrite_nil d)
    ∙ ap (overwrite d) (sym (ap (take (length d)) (drop_of_length-le s {i = from} h) ∙ take-nil (length d)))

-- as many as are left, or as were asked for
pub read_limited : (s : List ℕ) (from n k : ℕ) → n ≡ min (length s - from) k → take n (drop from s) ≡ take k (drop from s)
read_limited s from n k e =
    let left = length-drop from s in
    ⊎_elim
    (λ (h : length s - from ≤ k).
    take_all n (drop from s) (omega arith) ∙ sym (take_all k (drop from s) (omega arith)))
    (λ (h : k < length s - from). ap (λ (m : ℕ). take m (drop from s)) (let z : n ≡ k = omega arith in z))
    (le_or_gt (length s - from) k)

-- ---- a slice of either kind

module _ (l : Layout) (c : Channel) (s : List ℕ) where
  pub samples_of_planar : l ≡ Planar → s ≡ samples_of l c s
  samples_of_planar e = ap (λ (k : Layout). samples_of k c s) (sym e)

  pub samples_of_pixels : (p : PixelLayout) → l ≡ Pixels p → channel (channel_offsets p) c s ≡ samples_of l c s
  samples_of_pixels p e = ap (λ (k : Layout). samples_of k c s) (sym e)

  pub pixels_count : (p : PixelLayout) → l ≡ Pixels p → length s / 4 ≡ length (samples_of l c s)
  pixels_count p e =
      ap (λ (k : ℕ). length s / k) (sym (layouts_rearrange p).four_bytes) ∙ sym (length_channel (channel_offsets p) c s) ∙ ap length (samples_of_pixels p e)

  -- a part that was filled with the n samples that are left and were asked for
  pub read_part : (d part : List ℕ) (from n : ℕ) → n ≡ min (length (samples_of l c s) - from) (length d) → length part ≡ length (take n d) → part ≡ take n (drop from (samples_of l c s))
      → part ++ drop n d ≡ overwrite d (take (length d) (drop from (samples_of l c s)))
  unfolding overwrite
  read_part d part from n all long is =
      let same : n ≡ length part = sym (length-take-le n d (omega arith)) ∙ sym long in
      ap (λ (k : ℕ). part ++ drop k d) same ∙ ap (overwrite d) (is ∙ read_limited (samples_of l c s) from n (length d) all)

-- each channel of a slice has as many, which `Samples::count` says too
pub as_many : (l : Layout) (c other : Channel) (s : List ℕ) → length (samples_of l c s) ≡ length (samples_of l other s)
as_many Planar c other s = refl
as_many (Pixels p) c other s = length_channel (channel_offsets p) c s ∙ sym (length_channel (channel_offsets p) other s)
