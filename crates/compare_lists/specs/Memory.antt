-- What a frame call is lent, and which bytes of the planes it renews (compare/README.md, "Lists of content calls"): a part of the comparison
-- with the Rust (RULES 14.3). r[k] is byte k of the call's record.
use Rattle.std.specs.Prelude.{Bool, cond, List, ◌++◌, ℕ, ◌+◌, ◌*◌, ◌-◌, ◌/◌, ◌%◌, min, max, eqb, leb, length, drop}
use Rattle.std.specs.Int.Bits.{bit_and}
use Rattle.laws.specs.Lists.{tabulate}
use Rattle.replay.specs.Generator.{next_of, after, shades}
use Rattle.replay.specs.Generator.{byte_of as drawn}
use Rattle.compare_lists.specs.declared.input.Size.{Size}
use Rattle.compare_lists.specs.declared.memory.Numbers.{Numbers}
use Rattle.compare_lists.specs.Records.{byte_of}

-- w × h; 0 where a side is larger than those of the lists
unfoldable pub area_of : (w h : ℕ) → ℕ
area_of w h = cond (leb w 128) (cond (leb h 41) (w * h) 0) 0

-- the faults of a call: where r[13] % 4 is 0, the bits of r[14] & r[15], otherwise none
unfoldable pub faults_of : List ℕ → ℕ → ℕ
faults_of s i = cond (eqb (byte_of s i 13 % 4) 0) (bit_and (byte_of s i 14) (byte_of s i 15)) 0

-- a length that is lent: what is needed and 0 to 3 more, or one short of it
unfoldable pub lent_of : (need more : ℕ) (short : Bool) → ℕ
lent_of need more short = cond short (need - 1) (need + more % 4)

-- the least stride: three bytes to a pixel for BGR, kinds 11 to 20. No side of the lists is over 40.
unfoldable pub least_of : (kind width : ℕ) → ℕ
least_of kind width = cond (leb kind 10) (min width 40) (cond (leb kind 20) (3 * min width 40) (min width 40))

-- the padding of a row, by the byte r[6]: 0 where it is below 128, otherwise r[6] % 4
unfoldable pub padding_of : ℕ → ℕ
padding_of b = cond (leb 128 b) (b % 4) 0

-- by the size, the faults as bits, the byte of what is lent beyond the need, the least stride and the stride
unfoldable pub numbers_by : (w h fault more least stride : ℕ) → Numbers
numbers_by w h fault more least stride =
    record {
      width = cond (eqb (fault % 2) 1) 4097 w;
      height = h;
      stride = cond (eqb (fault / 2 % 2) 1) (least - 1) stride;
      need = area_of stride h;
      «data» = lent_of (area_of stride h) more (eqb (fault / 4 % 2) 1);
      saturation = lent_of (area_of stride h) (more / 4) (eqb (fault / 8 % 2) 1);
      value = lent_of (area_of stride h) (more / 16) (eqb (fault / 16 % 2) 1);
      store = lent_of (4 * area_of w h) (more / 64) (eqb (fault / 32 % 2) 1);
      scratch = lent_of (7 * area_of w h + 2 * min (max w h) 40) (more / 2) (eqb (fault / 64 % 2) 1);
      magnitudes = lent_of (area_of w h) (more / 8) (eqb (fault / 128 % 2) 1);
    }

-- what call i is lent
abbrev pub numbers_of : Size → List ℕ → ℕ → Numbers
numbers_of size s i =
    numbers_by
    size.width
    size.height
    (faults_of s i)
    (byte_of s i 7)
    (least_of (byte_of s i 0 % 32) size.width)
    (least_of (byte_of s i 0 % 32) size.width + padding_of (byte_of s i 6))

-- how many bytes of each plane are renewed, by the kind r[9] % 4 and the byte r[10]: none for 0, at most r[10] for 1, otherwise as many as are
-- needed
unfoldable pub renewed_by : (need kind b : ℕ) → ℕ
renewed_by need kind b = cond (eqb kind 0) 0 (cond (eqb kind 1) (min need b) need)

abbrev pub count_of : (need : ℕ) → List ℕ → ℕ → ℕ
count_of need s i = renewed_by need (byte_of s i 9 % 4) (byte_of s i 10)

-- where the generator starts: x = 256 × r[11] + r[12]
abbrev pub start_of : List ℕ → ℕ → ℕ
start_of s i = byte_of s i 11 * 256 + byte_of s i 12

abbrev pub kind_of : List ℕ → ℕ → ℕ
kind_of s i = byte_of s i 8 % 8

-- n bytes from x: for the kinds 0 to 3 a generated run of that kind, otherwise one byte of the generator throughout
unfoldable pub renewal : (n x kind : ℕ) → List ℕ
renewal n x kind = cond (leb kind 3) (shades n x kind) (tabulate n (λ k. drawn (next_of x)))

-- a plane whose first n bytes are renewed, or all where it has fewer
abbrev pub renewed_plane : List ℕ → (n x kind : ℕ) → List ℕ
renewed_plane plane n x kind = renewal (min n (length plane)) x kind ++ drop (min n (length plane)) plane

-- the generator's number after that, from which the next plane goes on
unfoldable pub number_after : List ℕ → (n x kind : ℕ) → ℕ
number_after plane n x kind = cond (leb kind 3) (after (min n (length plane)) x) (next_of x)
