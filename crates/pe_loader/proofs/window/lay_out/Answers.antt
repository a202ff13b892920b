use Rattle.std.proofs.Common.{◌≡◌, ◌+◌, ◌-◌, ◌∙◌, ℕ, ◌<◌, ◌&&◌, leb, cond, get_or, length, sym, ap, subst, arith}
use Rattle.mm_base.specs.declared.image.Part.{Part}
use Rattle.pe_loader.specs.Forms.{copies_to}
use Rattle.pe_loader.proofs.LoadLemmas.{laid_headers, laid_more, shown_all, shown_in_order}
use Rattle.pe_loader.proofs.window.lay_out.Goals as goal

pub loop-k-init : goal.loop-k-init
loop-k-init c = record {
  laid = laid_headers c.args.bytes.now c.args.layout.now c.args.window.now.first c.args.window.now.begin c.lay_headers.new.room c.requires.laid_out
      c.requires.window.few c.requires.window.ended (λ place h. c.lay_headers.ensures.each place (omega (arith, c.lay_headers.ensures.length)));
  long = c.lay_headers.ensures.length;
}

pub returns-then-is_behind-clause-shows : goal.returns-then-is_behind-clause-shows
returns-then-is_behind-clause-shows c =
    let window = c.args.window.now in
    let at = ap (λ (part : Part). part.at) c.part-part.ensures in
    let behind = sym c.is_behind.ensures ∙ c.if-is_behind.true in
    shown_in_order c.args.bytes.now c.args.layout.now c.loop-k.k window.begin c.loop-k.room window.ordered c.requires.window.order (omega arith) c.loop-k.invariant.laid
    (ap (λ n. window.ordered && leb (length c.loop-k.room) (n - window.begin)) (sym at) ∙ behind)

pub loop-k-preserved : goal.loop-k-preserved
loop-k-preserved c =
    let bytes = c.args.bytes.now in
    let begin = c.args.window.now.begin in
    let old = c.loop-k.room in
    let P : Part → Type 0 = λ part. (place : ℕ) → place < length old → get_or c.copy_part.new.room place 0
    ≡ cond (copies_to (begin + place) part) (get_or bytes (part.raw + (begin + place - part.at)) 0) (get_or old place 0) in
    record {
      laid = laid_more bytes c.args.layout.now c.loop-k.k begin old c.copy_part.new.room c.requires.laid_out (omega arith) c.copy_part.ensures.length
          c.loop-k.invariant.laid (subst P c.part-part.ensures c.copy_part.ensures.each);
      long = c.copy_part.ensures.length ∙ c.loop-k.invariant.long;
    }

pub returns-clause-shows : goal.returns-clause-shows
returns-clause-shows c =
    shown_all c.args.bytes.now c.args.layout.now c.loop-k.k c.args.window.now.begin c.loop-k.room (omega arith) c.loop-k.invariant.laid
