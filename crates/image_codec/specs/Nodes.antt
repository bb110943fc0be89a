-- Rows whose names are lent.
use Rattle.fsrm_model.specs.declared.row.AuditRow.{AuditRow}
use Rattle.fsrm_model.specs.declared.row.NodeRow.{NodeRow}
use Rattle.image_codec.specs.declared.logs.AuditRef.{AuditRef}
use Rattle.image_codec.specs.declared.nodes.NodeRef.{NodeRef}

abbrev pub node_lent : NodeRef → NodeRow
node_lent node =
    record {
      number = node.number;
      parent = node.parent;
      name = node.name.now;
      folder = node.folder;
      length = node.length;
      owner = node.owner;
      created = node.created;
      modified = node.modified;
      accessed = node.accessed;
    }

abbrev pub audit_lent : AuditRef → AuditRow
audit_lent entry =
    record {
      moment = entry.moment;
      active = entry.active;
      owner = entry.owner;
      folder = entry.folder;
      screen = entry.screen;
      name = entry.name.now;
    }
